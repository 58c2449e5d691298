use Rattle.std.proofs.Common.{arith, sym, ap, ◌∙◌}
use Rattle.std.specs.Prelude.{option_map}
use Rattle.buffer_glyphs.specs.Items.{item_of}
use Rattle.script_myanmar.proofs.MyanmarSteps.{kept_does, none_does, ordered_does}
use Rattle.script_myanmar.proofs.myanmar.MyanmarOrderSyllableRule.rewrite.Goals as goal

pub returns-in_default : goal.returns-in_default
returns-in_default c = none_does c.args.start c.args.end c.args.buffer.now (omega (arith, c.requires.ordered)) c.requires.ready (sym c.glyph_in.ensures.value ∙ ap (option_map item_of) c.in_default.is)

pub returns-then-not-is_reordered : goal.returns-then-not-is_reordered
returns-then-not-is_reordered c =
    kept_does c.args.start c.args.end (item_of c.in-Some.first) c.args.buffer.now (omega (arith, c.requires.ordered)) c.requires.ready (sym c.glyph_in.ensures.value ∙ ap (option_map item_of) c.in-Some.is) (sym c.is_reordered.ensures ∙ c.if-not-is_reordered.true)

pub returns : goal.returns
returns c =
    ordered_does c.args.start c.args.end (item_of c.in-Some.first) c.args.buffer.now c.reorder_syllable.new.buffer c.reorder_syllable.result (sym c.glyph_in.ensures.value ∙ ap (option_map item_of) c.in-Some.is) (sym c.is_reordered.ensures ∙ c.if-not-is_reordered.false) c.reorder_syllable.ensures

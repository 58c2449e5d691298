use Rattle.std.proofs.Common.{arith, sym, ◌∙◌}
use Rattle.buffer_glyphs.specs.Items.{item_of}
use Rattle.script_universal.proofs.Steps.{kept_does, all_does}
use Rattle.script_universal.proofs.reorder.UniversalOrderSyllableRule.rewrite.Goals as goal

pub returns-then-not-is_reordered : goal.returns-then-not-is_reordered
returns-then-not-is_reordered c =
    kept_does c.args.start c.args.end (item_of c.glyph_at-first.result) c.args.buffer.now (omega (arith, c.requires.ordered)) c.requires.ready c.glyph_at-first.ensures (sym c.is_reordered.ensures ∙ c.if-not-is_reordered.true)

pub returns : goal.returns
returns c =
    all_does c.args.start c.args.end (item_of c.glyph_at-first.result) c.args.buffer.now c.reorder_syllable.new.buffer c.glyph_at-first.ensures (sym c.is_reordered.ensures ∙ c.if-not-is_reordered.false) c.reorder_syllable.ensures

use Rattle.std.proofs.Common.{arith, sym, ap, ◌∙◌}
use Rattle.std.specs.Prelude.{option_map}
use Rattle.buffer_glyphs.specs.Items.{item_of}
use Rattle.script_khmer.proofs.KhmerMoves.{none_does, kept_does}
use Rattle.script_khmer.proofs.khmer.KhmerMasksSyllableRule.rewrite.Goals as goal

pub returns-in_default : goal.returns-in_default
returns-in_default c = none_does c.args.self.now c.args.start c.args.end c.args.buffer.now (omega (arith, c.requires.ordered)) c.requires.within c.requires.ready (sym c.glyph_in.ensures.value ∙ ap (option_map item_of) c.in_default.is)

pub returns-else-is_reordered : goal.returns-else-is_reordered
returns-else-is_reordered c = kept_does c.args.self.now c.args.start c.args.end (item_of c.in-Some.first) c.args.buffer.now (omega (arith, c.requires.ordered)) c.requires.within c.requires.ready (sym c.glyph_in.ensures.value ∙ ap (option_map item_of) c.in-Some.is) (sym c.is_reordered.ensures ∙ c.if-is_reordered.false)

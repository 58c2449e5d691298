use Rattle.buffer_glyphs.specs.Items.{strip}
use Rattle.shape_normalize.specs.Starters.{IsUncomposed}
use Rattle.shape_normalize.proofs.searching.first_composition.Given as goal

abbrev pub invariant-loop-at : goal.invariant-loop-at
invariant-loop-at g l = IsUncomposed (g.N.Normalizing.normalizer l.by) l.at l.starter (strip l.glyphs)

use Rattle.std.proofs.Common.{◌-◌, length}
use Rattle.shape_normalize.specs.Fronts.{TakesGlyphs}
use Rattle.shape_normalize.specs.KnownGlyphs.{HaveGlyphs}
use Rattle.shape_normalize.specs.Undecomposed.{AreUndecomposed}
use Rattle.shape_normalize.proofs.fronts.take_each.Given as goal

abbrev pub invariant-loop-at : goal.invariant-loop-at
invariant-loop-at g l = record {
  taken : TakesGlyphs (g.N.Normalizing.normalizer l.by) l.at l.initial.glyphs l.glyphs;
  rows : HaveGlyphs (g.N.Normalizing.normalizer l.by) l.rows;
  known : AreUndecomposed (g.N.Normalizing.normalizer l.by) l.known;
}

abbrev pub decreases-loop-at : goal.decreases-loop-at
decreases-loop-at g l = length l.glyphs - l.at

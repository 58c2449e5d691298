use Rattle.std.proofs.Common.{length}
use Rattle.shape_normalize.proofs.Advance.{IsAdvancing}
use Rattle.shape_normalize.specs.Undecomposed.{AreUndecomposed}
use Rattle.shape_normalize.proofs.expanding.expand_by_rows.Given as goal

abbrev pub invariant-loop-known : goal.invariant-loop-known
invariant-loop-known g l = record {
  advancing : IsAdvancing (g.N.Normalizing.normalizer l.by) l.initial.buffer l.buffer;
  known : AreUndecomposed (g.N.Normalizing.normalizer l.by) l.known;
}

abbrev pub decreases-loop-known : goal.decreases-loop-known
decreases-loop-known g l = length l.buffer.ahead

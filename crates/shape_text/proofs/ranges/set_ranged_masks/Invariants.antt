use Rattle.std.proofs.Common.{drop}
use Rattle.shape_text.proofs.Ranged.{OnTheWay}
use Rattle.shape_text.proofs.ranges.set_ranged_masks.Given as goal

abbrev pub invariant-loop-feature : goal.invariant-loop-feature
invariant-loop-feature l = OnTheWay l.map l.features (drop l.feature-index l.features) l.fn.buffer l.buffer

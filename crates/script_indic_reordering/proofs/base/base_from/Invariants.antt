use Rattle.std.proofs.Common.{◌≤◌, ◌-◌}
use Rattle.script_indic_reordering.proofs.Lemmas.Walks.{IsSeeking}
use Rattle.script_indic_reordering.proofs.base.base_from.Given as goal

abbrev pub invariant-loop-i : goal.invariant-loop-i
invariant-loop-i l = IsSeeking l.i l.first l.has_below l.glyphs × (l.from ≤ l.i)

abbrev pub decreases-loop-i : goal.decreases-loop-i
decreases-loop-i l = l.i - l.from

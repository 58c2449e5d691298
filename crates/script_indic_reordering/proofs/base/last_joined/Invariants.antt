use Rattle.std.proofs.Common.{◌≤◌, ◌-◌}
use Rattle.script_indic_reordering.proofs.Lemmas.Walks.{IsUnjoined}
use Rattle.script_indic_reordering.proofs.base.last_joined.Given as goal

abbrev pub invariant-loop-i : goal.invariant-loop-i
invariant-loop-i l = IsUnjoined l.i l.glyphs × (l.from ≤ l.i)

abbrev pub decreases-loop-i : goal.decreases-loop-i
decreases-loop-i l = l.i - l.from

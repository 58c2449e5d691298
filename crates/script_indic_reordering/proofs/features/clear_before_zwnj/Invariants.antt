use Rattle.script_indic_reordering.proofs.Lemmas.Walks.{IsClearing}
use Rattle.script_indic_reordering.proofs.features.clear_before_zwnj.Given as goal

abbrev pub invariant-loop-i : goal.invariant-loop-i
invariant-loop-i l = IsClearing l.bits l.i l.is_before l.initial.glyphs l.glyphs

abbrev pub decreases-loop-i : goal.decreases-loop-i
decreases-loop-i l = l.i

use Rattle.script_indic_reordering.proofs.Lemmas.Walks.{IsLeading}
use Rattle.script_indic_reordering.proofs.positions.lead.Given as goal

abbrev pub invariant-loop-i : goal.invariant-loop-i
invariant-loop-i l = IsLeading l.base l.i l.pos l.initial.glyphs l.glyphs

abbrev pub decreases-loop-i : goal.decreases-loop-i
decreases-loop-i l = l.i

use Rattle.script_indic_reordering.proofs.Lemmas.Walks.{IsBasing}
use Rattle.script_indic_reordering.proofs.positions.set_base_position.Given as goal

abbrev pub invariant-loop-i : goal.invariant-loop-i
invariant-loop-i l = IsBasing l.base l.i l.initial.glyphs l.glyphs

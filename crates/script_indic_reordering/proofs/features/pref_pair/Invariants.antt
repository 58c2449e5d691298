use Rattle.script_indic_reordering.proofs.Lemmas.Walks.{IsPairing}
use Rattle.script_indic_reordering.proofs.features.pref_pair.Given as goal

abbrev pub invariant-loop-i : goal.invariant-loop-i
invariant-loop-i g l = IsPairing (g.F.IndicForms.forms_of l.forms) l.i l.glyphs

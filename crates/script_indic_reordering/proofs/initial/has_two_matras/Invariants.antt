use Rattle.std.proofs.Common.{◌≡◌, drop}
use Rattle.buffer_glyphs.specs.Items.{strip}
use Rattle.script_indic_reordering.specs.Initial.{has_two_matras}
use Rattle.script_indic_reordering.proofs.Lemmas.Sequences.{are_two}
use Rattle.script_indic_reordering.proofs.initial.has_two_matras.Given as goal

abbrev pub invariant-loop-i : goal.invariant-loop-i
invariant-loop-i l = are_two l.is_second (drop l.i (strip l.glyphs)) ≡ has_two_matras (strip l.glyphs)

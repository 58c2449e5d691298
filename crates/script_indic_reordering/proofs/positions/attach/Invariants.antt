use Rattle.script_categories.specs.declared.ot_position_t.TheConstants as position
use Rattle.buffer_glyphs.specs.Items.{strip}
use Rattle.buffer_stages.proofs.Lemmas.Made.{AreWritten}
use Rattle.script_indic_reordering.specs.Initial.{signs_attached}
use Rattle.script_indic_reordering.proofs.positions.attach.Given as goal

abbrev pub invariant-loop-i : goal.invariant-loop-i
invariant-loop-i l = AreWritten (signs_attached l.pos) l.i (signs_attached position.POS_START (strip l.initial.glyphs)) l.initial.glyphs l.glyphs

use Rattle.std.proofs.Common.{sym, ◌∙◌}
use Rattle.script_indic_reordering.proofs.Lemmas.Sequences.{second_left_met}
use Rattle.script_indic_reordering.proofs.initial.has_two_matras.Goals as goal

pub returns-then-is_second : goal.returns-then-is_second
returns-then-is_second c = second_left_met c.args.glyphs.now c.loop-i.i _ c.loop-i.is_second _ c.loop-i-test.true (sym c.is_left_matra.ensures ∙ c.if-is_left_matra.true) c.if-is_second.true c.loop-i.invariant

use Rattle.std.proofs.Common.{sym, ◌∙◌}
use Rattle.script_syllabic.proofs.Underway.{one_passed, all_passed, other_ahead}
use Rattle.script_syllabic.proofs.circles.pass_rephas.Goals as goal

pub loop-rephas-preserved : goal.loop-rephas-preserved
loop-rephas-preserved c =
    one_passed c.args.rule.now c.args.byte c.loop-rephas.rephas c.cur.result.now c.args.buffer.now c.loop-rephas.buffer c.pass_glyph.new.buffer c.loop-rephas.invariant c.cur.ensures (sym c.is_repha.ensures ∙ c.if-is_repha.true) c.in_ok-pass_glyph.ensures.moved

pub returns-else-is_repha-clause-count : goal.returns-else-is_repha-clause-count
returns-else-is_repha-clause-count c =
    (all_passed c.args.rule.now c.args.byte c.loop-rephas.rephas c.args.buffer.now c.loop-rephas.buffer c.loop-rephas.invariant
    (other_ahead c.args.rule.now c.args.byte c.cur.result.now c.loop-rephas.buffer c.cur.ensures (sym c.is_repha.ensures ∙ c.if-is_repha.false))).0

pub returns-else-is_repha-clause-moved : goal.returns-else-is_repha-clause-moved
returns-else-is_repha-clause-moved c =
    (all_passed c.args.rule.now c.args.byte c.loop-rephas.rephas c.args.buffer.now c.loop-rephas.buffer c.loop-rephas.invariant
    (other_ahead c.args.rule.now c.args.byte c.cur.result.now c.loop-rephas.buffer c.cur.ensures (sym c.is_repha.ensures ∙ c.if-is_repha.false))).1

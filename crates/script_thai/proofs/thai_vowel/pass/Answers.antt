use Rattle.std.proofs.Common.{sym, ◌∙◌}
use Rattle.script_thai.proofs.Vowels.{first_other, others_exceed, others_walked, vowel_exceeds, vowel_first}
use Rattle.script_thai.proofs.thai_vowel.pass.Goals as goal
use Rattle.buffer_facts.proofs.Results.{passed_on}

pub returns-in_err-split-clause-err : goal.returns-in_err-split-clause-err
returns-in_err-split-clause-err c =
    let e = c.in_err-split.field-0.0 in
    passed_on c.from_residual.result e _ c.from_residual.ensures.1
    (vowel_exceeds c.cur.result.now e c.args.buffer.now c.cur.ensures (sym c.is_sara_am.ensures ∙ c.if-is_sara_am.true) c.in_err-split.ensures.err)

pub returns-then-is_sara_am-clause-ok : goal.returns-then-is_sara_am-clause-ok
returns-then-is_sara_am-clause-ok c =
    vowel_first c.cur.result.now c.args.buffer.now c.split.new.buffer c.cur.ensures (sym c.is_sara_am.ensures ∙ c.if-is_sara_am.true) c.in_ok-split.ensures.ok

pub count_others-others-requires-clause-first : goal.count_others-others-requires-clause-first
count_others-others-requires-clause-first c = first_other c.cur.result.now c.args.buffer.now.ahead c.cur.ensures (sym c.is_sara_am.ensures ∙ c.if-is_sara_am.false)

pub returns-in_err-advance_over-clause-err : goal.returns-in_err-advance_over-clause-err
returns-in_err-advance_over-clause-err c =
    let e = c.in_err-advance_over.field-0.0 in
    passed_on c.from_residual-in_err-advance_over.result e _ c.from_residual-in_err-advance_over.ensures.1
    (others_exceed c.count_others-others.result e c.args.buffer.now c.count_others-others.ensures.within c.count_others-others.ensures.others c.in_err-advance_over.ensures.err)

pub returns-clause-ok : goal.returns-clause-ok
returns-clause-ok c = others_walked c.count_others-others.result c.args.buffer.now c.advance_over.new.buffer c.count_others-others.ensures.others c.in_ok-advance_over.ensures.ok

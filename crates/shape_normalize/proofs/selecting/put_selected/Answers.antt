use Rattle.shape_normalize.proofs.Select.{pair_brought, pair_too_many, none_brought, none_too_many}
use Rattle.shape_normalize.proofs.selecting.put_selected.Goals as goal
use Rattle.buffer_facts.proofs.Results.{passed_on}

pub returns-in_ok-join_selector-in-Some-clause-ok : goal.returns-in_ok-join_selector-in-Some-clause-ok
returns-in_ok-join_selector-in-Some-clause-ok g c =
    pair_brought (g.N.Normalizing.normalizer c.args.by.now) c.cur.result.now c.cur-2.result.now c.in-Some.glyph c.args.buffer.now c.join_selector.new.buffer c.cur.ensures c.cur-2.ensures c.in-Some.ensures c.in_ok-join_selector-in-Some.ensures.ok

pub returns-in_err-join_selector-in-Some-clause-err : goal.returns-in_err-join_selector-in-Some-clause-err
returns-in_err-join_selector-in-Some-clause-err g c =
    let e = c.in_err-join_selector-in-Some.field-0.0 in
    passed_on c.from_residual.result e _ c.from_residual.ensures.1
    (pair_too_many (g.N.Normalizing.normalizer c.args.by.now) c.cur.result.now c.cur-2.result.now c.in-Some.glyph e c.args.buffer.now c.cur.ensures c.cur-2.ensures c.in-Some.ensures c.in_err-join_selector-in-Some.ensures.err)

pub returns-in_ok-put_both-in-None-clause-ok : goal.returns-in_ok-put_both-in-None-clause-ok
returns-in_ok-put_both-in-None-clause-ok g c =
    none_brought (g.N.Normalizing.normalizer c.args.by.now) c.cur.result.now c.cur-2.result.now c.args.buffer.now c.put_both.new.buffer c.cur.ensures c.cur-2.ensures c.in-None.ensures c.in_ok-put_both-in-None.ensures.ok

pub returns-in_err-put_both-in-None-clause-err : goal.returns-in_err-put_both-in-None-clause-err
returns-in_err-put_both-in-None-clause-err g c =
    let e = c.in_err-put_both-in-None.field-0.0 in
    passed_on c.from_residual-in_err-put_both-in-None.result e _ c.from_residual-in_err-put_both-in-None.ensures.1
    (none_too_many (g.N.Normalizing.normalizer c.args.by.now) c.cur.result.now c.cur-2.result.now e c.args.buffer.now c.cur.ensures c.cur-2.ensures c.in-None.ensures c.in_err-put_both-in-None.ensures.err)

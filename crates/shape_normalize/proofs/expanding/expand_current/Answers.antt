use Rattle.shape_normalize.proofs.Put.{pieces_brought, whole_brought, pieces_too_many, whole_too_many}
use Rattle.shape_normalize.proofs.expanding.expand_current.Goals as goal
use Rattle.buffer_facts.proofs.Results.{passed_on}

pub returns-in_err-put_expansion-clause-err : goal.returns-in_err-put_expansion-clause-err
returns-in_err-put_expansion-clause-err g c =
    let e = c.in_err-put_expansion.field-0.0 in
    passed_on c.from_residual.result e _ c.from_residual.ensures.1
    (pieces_too_many (g.N.Normalizing.normalizer c.args.by.now) c.args.reach c.cur.result.now e c.args.buffer.now c.cur.ensures c.in_err-put_expansion.ensures.err)

pub returns-then-branch-clause-ok : goal.returns-then-branch-clause-ok
returns-then-branch-clause-ok g c = λ x xs seen. pieces_brought (g.N.Normalizing.normalizer c.args.by.now) c.args.reach c.in_ok-put_expansion.field-0 c.cur.result.now c.args.buffer.now c.put_expansion.new.buffer x xs c.cur.ensures seen c.in_ok-put_expansion.ensures.ok c.if-branch.true

pub returns-in_err-output_replacement-clause-err : goal.returns-in_err-output_replacement-clause-err
returns-in_err-output_replacement-clause-err g c =
    let e = c.in_err-output_replacement.field-0.0 in
    passed_on c.from_residual-in_err-output_replacement.result e _ c.from_residual-in_err-output_replacement.ensures.1
    (whole_too_many (g.N.Normalizing.normalizer c.args.by.now) c.args.reach c.in_ok-put_expansion.field-0 c.cur.result.now e c.args.buffer.now c.put_expansion.new.buffer c.cur.ensures c.in_ok-put_expansion.ensures.ok c.if-branch.false c.in_err-output_replacement.ensures.err)

pub returns-clause-ok : goal.returns-clause-ok
returns-clause-ok g c = λ x xs seen. whole_brought (g.N.Normalizing.normalizer c.args.by.now) c.args.reach c.in_ok-put_expansion.field-0 c.cur.result.now c.whole_of.result c.args.buffer.now c.put_expansion.new.buffer c.output_replacement.new.buffer x xs c.cur.ensures seen c.in_ok-put_expansion.ensures.ok c.if-branch.false c.whole_of.ensures.item c.whole_of.ensures.origin c.in_ok-output_replacement.ensures.ok

use Rattle.shape_normalize.proofs.Given.{given_too_many}
use Rattle.shape_normalize.proofs.expanding.expand_list.Goals as goal
use Rattle.buffer_facts.proofs.Results.{passed_on}

pub returns-in_err-expand_given-clause-err : goal.returns-in_err-expand_given-clause-err
returns-in_err-expand_given-clause-err g c =
    let e = c.in_err-expand_given.field-0.0 in
    passed_on c.from_residual.result e _ c.from_residual.ensures.1
    (given_too_many (g.N.Normalizing.normalizer c.args.by.now) e c.args.buffer.now c.give_ahead.new.buffer c.give_ahead.ensures c.in_err-expand_given.ensures.err)

use Rattle.std.proofs.Common.{sym, ◌∙◌}
use Rattle.shape_normalize.proofs.Select.{first_waits, first_selector, first_too_many}
use Rattle.shape_normalize.proofs.selecting.select_first.Goals as goal
use Rattle.buffer_facts.proofs.Results.{passed_on}

pub returns-then-not-is_selector-clause-ok : goal.returns-then-not-is_selector-clause-ok
returns-then-not-is_selector-clause-ok g c = first_waits (g.N.Normalizing.normalizer c.args.by.now) c.cur.result.now c.args.buffer.now c.cur.ensures (sym c.is_selector.ensures ∙ c.if-not-is_selector.true)

pub returns-clause-ok : goal.returns-clause-ok
returns-clause-ok g c =
    first_selector (g.N.Normalizing.normalizer c.args.by.now) c.cur.result.now c.args.buffer.now c.put_unexpanded.new.buffer c.cur.ensures (sym c.is_selector.ensures ∙ c.if-not-is_selector.false) c.in_ok-put_unexpanded.ensures.ok

pub returns-in_err-put_unexpanded-clause-err : goal.returns-in_err-put_unexpanded-clause-err
returns-in_err-put_unexpanded-clause-err g c =
    let e = c.in_err-put_unexpanded.field-0.0 in
    passed_on c.from_residual.result e _ c.from_residual.ensures.1
    (first_too_many (g.N.Normalizing.normalizer c.args.by.now) c.cur.result.now e c.args.buffer.now c.cur.ensures (sym c.is_selector.ensures ∙ c.if-not-is_selector.false) c.in_err-put_unexpanded.ensures.err)

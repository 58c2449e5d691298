use Rattle.std.proofs.Common.{sym, ◌∙◌}
use Rattle.shape_normalize.proofs.Select.{behind_waits, selector_met, met_too_many}
use Rattle.shape_normalize.proofs.selecting.select_behind.Goals as goal
use Rattle.buffer_facts.proofs.Results.{passed_on}

pub returns-then-not-is_selector-clause-ok : goal.returns-then-not-is_selector-clause-ok
returns-then-not-is_selector-clause-ok g c =
    behind_waits (g.N.Normalizing.normalizer c.args.by.now) c.cur.result.now c.args.buffer.now c.put_unexpanded.new.buffer c.cur.ensures (sym c.is_selector.ensures ∙ c.if-not-is_selector.true) c.in_ok-put_unexpanded.ensures.ok

pub returns-in_err-put_selected-clause-err : goal.returns-in_err-put_selected-clause-err
returns-in_err-put_selected-clause-err g c =
    let e = c.in_err-put_selected.field-0.0 in
    passed_on c.from_residual-in_err-put_selected.result e _ c.from_residual-in_err-put_selected.ensures.1
    (met_too_many (g.N.Normalizing.normalizer c.args.by.now) c.cur.result.now e c.args.buffer.now c.cur.ensures (sym c.is_selector.ensures ∙ c.if-not-is_selector.false) c.in_err-put_selected.ensures.err)

pub returns-clause-ok : goal.returns-clause-ok
returns-clause-ok g c =
    selector_met (g.N.Normalizing.normalizer c.args.by.now) c.cur.result.now c.args.buffer.now c.put_selected.new.buffer c.cur.ensures (sym c.is_selector.ensures ∙ c.if-not-is_selector.false) c.in_ok-put_selected.ensures.ok

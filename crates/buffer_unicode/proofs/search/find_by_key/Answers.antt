use Rattle.std.proofs.Common.{ap, ◌∙◌, Some, None, Ok, Err, rules}
use Rattle.std.proofs.lemmas.List.Sorted.{answers_always}
use Rattle.buffer_rows.proofs.Searched.{searched}
use Rattle.buffer_unicode.proofs.Pairs.{pair_order, pairs_total, pairs_rise, row_of_pair}
use Rattle.buffer_unicode.proofs.search.find_by_key.Goals as goal

-- the closure gives a row's key
pub returns-in-Ok : goal.returns-in-Ok
returns-in-Ok g c =
    let by_key = c.in-Ok.ensures.position (λ r. (g.R.DoublyKeyed.high r, g.R.DoublyKeyed.low r)) (answers_always _ _ _ (λ f a r h called. search rules)) in
    ap (λ r. Some r) c.index-rows-index.is
    ∙ searched pair_order pairs_total (λ r. (g.R.DoublyKeyed.high r, g.R.DoublyKeyed.low r)) None c.args.rows.now (c.args.high, c.args.low) (Ok c.in-Ok.index) (pairs_rise g.R.DoublyKeyed.high g.R.DoublyKeyed.low c.args.rows.now c.requires) c.in-Ok.ensures.bound by_key c.index-rows-index.result
    ∙ row_of_pair g.R.DoublyKeyed.high g.R.DoublyKeyed.low c.args.high c.args.low c.args.rows.now

pub returns-in-Err : goal.returns-in-Err
returns-in-Err g c =
    let by_key = c.in-Err.ensures.position (λ r. (g.R.DoublyKeyed.high r, g.R.DoublyKeyed.low r)) (answers_always _ _ _ (λ f a r h called. search rules)) in
    searched pair_order pairs_total (λ r. (g.R.DoublyKeyed.high r, g.R.DoublyKeyed.low r)) None c.args.rows.now (c.args.high, c.args.low) (Err c.in-Err.field-0) (pairs_rise g.R.DoublyKeyed.high g.R.DoublyKeyed.low c.args.rows.now c.requires) c.in-Err.ensures.bound by_key
    ∙ row_of_pair g.R.DoublyKeyed.high g.R.DoublyKeyed.low c.args.high c.args.low c.args.rows.now

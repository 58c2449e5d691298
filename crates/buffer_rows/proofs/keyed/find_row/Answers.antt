use Rattle.std.proofs.Common.{ap, ◌∙◌, Some, None, Ok, Err, rules}
use Rattle.std.proofs.lemmas.List.Sorted.{answers_always}
use Rattle.buffer_rows.proofs.Searched.{searched}
use Rattle.buffer_rows.proofs.keyed.find_row.Goals as goal

-- the closure gives a record's key
pub returns-in-Ok : goal.returns-in-Ok
returns-in-Ok g c =
    let by_key = c.in-Ok.ensures.position g.R.Keyed.key_of (answers_always _ _ _ (λ f a r h called. search rules)) in
    ap (λ r. Some r) c.index-rows-index.is ∙ searched g.R.Key.Ord.cmp g.met.R.Key.Ord.total g.R.Keyed.key_of None c.args.rows.now c.args.key (Ok c.in-Ok.index) c.requires c.in-Ok.ensures.bound by_key c.index-rows-index.result

pub returns-in-Err : goal.returns-in-Err
returns-in-Err g c =
    let by_key = c.in-Err.ensures.position g.R.Keyed.key_of (answers_always _ _ _ (λ f a r h called. search rules)) in
    searched g.R.Key.Ord.cmp g.met.R.Key.Ord.total g.R.Keyed.key_of None c.args.rows.now c.args.key (Err c.in-Err.field-0) c.requires c.in-Err.ensures.bound by_key

use Rattle.std.proofs.Common.{None, Err, rules}
use Rattle.std.proofs.lemmas.List.Sorted.{answers_always}
use Rattle.buffer_rows.proofs.Searched.{searched}
use Rattle.buffer_rows.proofs.keyed.find_index.Goals as goal

-- the closure gives a record's key
pub returns-in-Ok : goal.returns-in-Ok
returns-in-Ok g c = (c.in-Ok.ensures.bound, c.in-Ok.ensures.position g.R.Keyed.key_of (answers_always _ _ _ (λ f a r h called. search rules)))

pub returns-in-Err : goal.returns-in-Err
returns-in-Err g c =
    let by_key = c.in-Err.ensures.position g.R.Keyed.key_of (answers_always _ _ _ (λ f a r h called. search rules)) in
    searched g.R.Key.Ord.cmp g.met.R.Key.Ord.total g.R.Keyed.key_of None c.args.rows.now c.args.key (Err c.in-Err.field-0) c.requires c.in-Err.ensures.bound by_key

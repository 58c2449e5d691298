use Rattle.std.proofs.Common.{None, rules}
use Rattle.std.proofs.lemmas.List.Sorted.{answers_always}
use Rattle.buffer_rows.proofs.Searched.{comparisons_rise}
use Rattle.buffer_rows.proofs.keyed.index_for.Goals as goal

-- the closure gives a record's key
pub returns-in-Ok-clause-found : goal.returns-in-Ok-clause-found
returns-in-Ok-clause-found g c = c.in-Ok.ensures.position g.R.Keyed.key_of (answers_always _ _ _ (λ f a r h called. search rules))

pub returns-in-Err-clause-found : goal.returns-in-Err-clause-found
returns-in-Err-clause-found g c =
    let by_key = c.in-Err.ensures.position g.R.Keyed.key_of (answers_always _ _ _ (λ f a r h called. search rules)) in
    by_key (comparisons_rise g.R.Key.Ord.cmp g.met.R.Key.Ord.total g.R.Keyed.key_of None c.args.rows.now c.args.key c.requires)

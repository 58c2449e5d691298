use Rattle.std.proofs.Common.{ℕ, rules, refl}
use Rattle.std.proofs.lemmas.List.Sorted.{IsNonDecreasingBy-from_sort_by_key, answers_always}
use Rattle.buffer_rows.proofs.StableSort.{stable_sort_is}
use Rattle.buffer_lists.specs.declared.sorting.KeyedIndex.{KeyedIndex}
use Rattle.buffer_lists.proofs.sorting.sort_indices.Goals as goal

pub returns-clause-sorted : goal.returns-clause-sorted
returns-clause-sorted c =
    let key = λ (e : KeyedIndex). e.key in
    let sorted = IsNonDecreasingBy-from_sort_by_key key _ c.in_ok-sort_by_key.ensures.sorted (λ a r q k. search rules) in
    let stable = c.in_ok-sort_by_key.ensures.stable key (answers_always _ _ _ (λ f a r f' called. search rules)) in
    stable_sort_is key (λ (k : ℕ). record { key = k; index = 0 }) (λ k. refl) c.args.indices.now.items c.sort_by_key.new.self.items sorted stable c.in_ok-sort_by_key.ensures.permutation

use Rattle.std.proofs.Common.{ℕ, pos, ◌≡◌, ◌+◌, ◌*◌, rules, refl, arith, None}
use Rattle.std.proofs.lemmas.List.Sorted.{IsNonDecreasingBy-from_sort_by_key, answers_always}
use Rattle.buffer_rows.proofs.StableSort.{stable_sort_is}
use Rattle.layout_tables.specs.declared.pair.PairRow.{PairRow}
use Rattle.font_kern.specs.Pairs.{kern_values, pair_number}
use Rattle.font_kern.proofs.pairs.sort_pairs.Goals as goal

pub returns : goal.returns
returns c =
    let sorted = IsNonDecreasingBy-from_sort_by_key pair_number _ c.in_ok-sort_by_key.ensures.sorted (λ a r q k. search rules) in
    let stable = c.in_ok-sort_by_key.ensures.stable pair_number (answers_always _ _ _ (λ f a r f' called. search rules)) in
    stable_sort_is pair_number (λ (k : ℕ). record { first = 0; second = k; values = record { first = record { x_placement = pos 0; y_placement = pos 0; x_advance = pos 0; y_advance = pos 0 }; second = None } }) (λ k. omega arith) c.args.rows.now.items c.sort_by_key.new.self.items sorted stable c.in_ok-sort_by_key.ensures.permutation

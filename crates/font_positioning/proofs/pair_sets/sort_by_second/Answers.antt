use Rattle.std.proofs.Common.{rules}
use Rattle.std.proofs.lemmas.List.Sorted.{IsNonDecreasingBy-from_sort_by_key, answers_always}
use Rattle.layout_tables.specs.declared.pair.PairRow.{PairRow}
use Rattle.font_positioning.proofs.PairSets.{sorted_by_second}
use Rattle.font_positioning.proofs.pair_sets.sort_by_second.Goals as goal

pub returns-clause-sorted : goal.returns-clause-sorted
returns-clause-sorted c =
    let key = λ (r : PairRow). r.second in
    let sorted = IsNonDecreasingBy-from_sort_by_key key _ c.in_ok-sort_by_key.ensures.sorted (λ a r q k. search rules) in
    let stable = c.in_ok-sort_by_key.ensures.stable key (answers_always _ _ _ (λ f a r f' called. search rules)) in
    sorted_by_second c.args.rows.now.items c.sort_by_key.new.self.items sorted stable c.in_ok-sort_by_key.ensures.permutation

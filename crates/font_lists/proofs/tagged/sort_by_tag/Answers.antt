use Rattle.std.proofs.Common.{ℕ, rules, refl}
use Rattle.std.proofs.lemmas.List.Sorted.{IsNonDecreasingBy-from_sort_by_key, answers_always}
use Rattle.buffer_rows.proofs.StableSort.{stable_sort_is}
use Rattle.font_lists.specs.declared.tagged.TagRecord.{TagRecord}
use Rattle.font_lists.proofs.tagged.sort_by_tag.Goals as goal

pub returns-clause-ok : goal.returns-clause-ok
returns-clause-ok c =
    let key = λ (r : TagRecord). r.tag.0 in
    let sorted = IsNonDecreasingBy-from_sort_by_key key _ c.in_ok-sort_by_key.ensures.sorted (λ a r q k. search rules) in
    let stable = c.in_ok-sort_by_key.ensures.stable key (answers_always _ _ _ (λ f a r f' called. search rules)) in
    stable_sort_is key (λ (k : ℕ). record { tag = record { 0 = k }; at = 0 }) (λ k. refl) c.args.tagged.now.items c.sort_by_key.new.self.items sorted stable c.in_ok-sort_by_key.ensures.permutation

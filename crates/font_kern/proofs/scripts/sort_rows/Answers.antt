use Rattle.std.proofs.Common.{ℕ, rules, refl, false}
use Rattle.std.proofs.lemmas.List.Sorted.{IsNonDecreasingBy-from_sort_by_key, answers_always}
use Rattle.buffer_rows.proofs.StableSort.{stable_sort_is}
use Rattle.font_kern.specs.declared.scripts.ScriptRow.{ScriptRow}
use Rattle.font_kern.proofs.scripts.sort_rows.Goals as goal

pub returns : goal.returns
returns c =
    let key = λ (r : ScriptRow). r.tag.0 in
    let sorted = IsNonDecreasingBy-from_sort_by_key key _ c.in_ok-sort_by_key.ensures.sorted (λ a r q k. search rules) in
    let stable = c.in_ok-sort_by_key.ensures.stable key (answers_always _ _ _ (λ f a r f' called. search rules)) in
    stable_sort_is key (λ (k : ℕ). record { tag = record { 0 = k }; is_backward = false }) (λ k. refl) c.args.rows.now.items c.sort_by_key.new.self.items sorted stable c.in_ok-sort_by_key.ensures.permutation

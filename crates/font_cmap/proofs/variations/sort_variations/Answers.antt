use Rattle.std.proofs.Common.{ℕ, ◌/◌, ◌%◌, rules, arith}
use Rattle.std.proofs.lemmas.List.Sorted.{IsNonDecreasingBy-from_sort_by_key, answers_always}
use Rattle.buffer_rows.proofs.StableSort.{stable_sort_is}
use Rattle.layout_face.specs.declared.parts.VariationRow.{VariationRow}
use Rattle.font_cmap.specs.Variations.{variation_key}
use Rattle.font_cmap.proofs.variations.sort_variations.Goals as goal

pub returns-clause-ok : goal.returns-clause-ok
returns-clause-ok c =
    let key = λ (r : VariationRow). variation_key r in
    let sorted = IsNonDecreasingBy-from_sort_by_key key _ c.in_ok-sort_by_key.ensures.sorted (λ a r q k. search rules) in
    let stable = c.in_ok-sort_by_key.ensures.stable key (answers_always _ _ _ (λ f a r f' called. search rules)) in
    stable_sort_is key (λ (k : ℕ). record { character = k / 1114112; selector = k % 1114112; glyph = 0 }) (λ k. omega arith) c.args.rows.now.items c.sort_by_key.new.self.items sorted stable c.in_ok-sort_by_key.ensures.permutation

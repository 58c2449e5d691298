-- The mask that every glyph starts with has no glyph flag.
use Rattle.std.proofs.Common.{ℕ, ◌≡◌, ◌≤◌, ◌+◌, ◌-◌, ◌*◌, ◌%◌, ◌^◌, ◌==◌, nat_lt, Bool, true, false, if◌then◌else◌, List, [], ◌∷◌, fold, Option, Some, None, refl, sym, ap, ◌∙◌, arith, mul_assoc}
use Rattle.std.specs.Int.RustNames.{bit_and, bit_or}
use Rattle.std.specs.List.{flat_map}
use Rattle.std.proofs.lemmas.List.Sums.{fold-append}
use Rattle.std.proofs.lemmas.Nat.{and_mask, and_or_apart, pow-add}
use Rattle.layout_map_features.specs.declared.field.FeatureField.{FeatureField}
use Rattle.layout_map_features.specs.declared.kept_fields.KeptField.{KeptField}
use Rattle.layout_map_features.specs.declared.request.MergedRequest.{MergedRequest}
use Rattle.layout_map_features.specs.Fields.{global_bit, global_field, own_field, first_feature_bit, bits_needed, uses_global_bit, bit_after, field_of, free_bit, below_tag, field_among, kept_field, kept_fields}

-- sixteen times a number has no bit of seven
sixteenfold : (n : ℕ) → bit_and (n * 16) 7 ≡ 0
sixteenfold n = and_mask (n * 16) 3 ∙ omega arith

pub shifted : (n next : ℕ) → 4 ≤ next → bit_and (n * 2 ^ next) 7 ≡ 0
shifted n next le =
    let split : next ≡ (next - 4) + 4 = omega (arith, le) in
    let power : 2 ^ next ≡ 2 ^ (next - 4) * 16 = ap (λ k. 2 ^ k) split ∙ pow-add 2 (next - 4) 4 in
    let whole : n * 2 ^ next ≡ (n * 2 ^ (next - 4)) * 16 = ap (λ p. n * p) power ∙ sym (mul_assoc n (2 ^ (next - 4)) 16) in
    rw whole (sixteenfold (n * 2 ^ (next - 4)))

abbrev IsFlagless : Option FeatureField → Type 0
IsFlagless None = Unit {0}
IsFlagless (Some f) = bit_and f.default_mask 7 ≡ 0

flagless_cases : (off glob fits : Bool) (next count value : ℕ) → 4 ≤ next
    → IsFlagless (if off then None else if glob then Some global_field else if fits then Some (own_field next count value) else None)
flagless_cases true glob fits next count value le = tt
flagless_cases false true fits next count value le = refl
flagless_cases false false true next count value le = shifted (value % 2 ^ count) next le
flagless_cases false false false next count value le = tt

flagless_field : (next : ℕ) (m : MergedRequest) → 4 ≤ next → IsFlagless (field_of next m)
flagless_field next m le =
    flagless_cases (m.max_value == 0) (uses_global_bit m) (nat_lt (next + bits_needed m.max_value) 31) next (bits_needed m.max_value) m.default_value le

after_cases : (off glob fits : Bool) (next count : ℕ) → 4 ≤ next → 4 ≤ (if off then next else if glob then next else if fits then next + count else next)
after_cases true glob fits next count le = le
after_cases false true fits next count le = le
after_cases false false true next count le = omega (arith, le)
after_cases false false false next count le = le

pub after_flags : (next : ℕ) (ms : List MergedRequest) → 4 ≤ next → 4 ≤ fold bit_after next ms
after_flags next [] le = le
after_flags next (m ∷ ms) le =
    after_flags (bit_after next m) ms (after_cases (m.max_value == 0) (uses_global_bit m) (nat_lt (next + bits_needed m.max_value) 31) next (bits_needed m.max_value) le)

abbrev mask_step : ℕ → KeptField → ℕ
mask_step mask k = bit_or mask k.field.default_mask

one_field : (mask : ℕ) (m : MergedRequest) (field : Option FeatureField) → bit_and mask 7 ≡ 0 → IsFlagless field → bit_and (fold mask_step mask (kept_field m field)) 7 ≡ 0
one_field mask m None h f = h
one_field mask m (Some field) h f = and_or_apart 7 mask field.default_mask f ∙ h

all_fields : (all ms : List MergedRequest) (mask : ℕ) → bit_and mask 7 ≡ 0 → bit_and (fold mask_step mask (flat_map (λ m. kept_field m (field_among all m)) ms)) 7 ≡ 0
all_fields all [] mask h = h
all_fields all (m ∷ ms) mask h =
    let next = free_bit (below_tag m.tag.0 all) in
    let field = flagless_field next m (after_flags first_feature_bit (below_tag m.tag.0 all) (omega arith)) in
    rw (fold-append mask_step mask (kept_field m (field_among all m)) (flat_map (λ m. kept_field m (field_among all m)) ms))
    (all_fields all ms (fold mask_step mask (kept_field m (field_among all m))) (one_field mask m (field_among all m) h field))

pub flagless : (wanted : List MergedRequest) (kept : List KeptField) (mask : ℕ) → kept ≡ kept_fields wanted
    → mask ≡ fold (λ mask k. bit_or mask k.field.default_mask) global_bit kept → bit_and mask 7 ≡ 0
flagless wanted kept mask k m = rw (m, k) (all_fields wanted wanted global_bit refl)

-- The bits of a map's features hold no glyph flag.
use Rattle.std.proofs.Common.{ℕ, ◌≡◌, ◌≤◌, ◌<◌, ◌+◌, ◌-◌, ◌^◌, ◌==◌, nat_lt, Bool, true, false, if◌then◌else◌, List, [], ◌∷◌, map, Option, Some, None, refl, sym, ap, ◌∙◌, arith}
use Rattle.std.specs.Prelude.{IfSome}
use Rattle.std.specs.Int.RustNames.{bit_and}
use Rattle.std.specs.List.{All, find, flat_map}
use Rattle.std.proofs.Math.Nat.{one-mul}
use Rattle.std.proofs.lemmas.List.{map-append}
use Rattle.std.proofs.lemmas.Bool.{ltb-true}
use Rattle.std.proofs.lemmas.List.Elements.{All-append, All-cons, All-head, All-nil, All-tail}
use Rattle.layout_map_features.specs.declared.field.FeatureField.{FeatureField}
use Rattle.layout_map_features.specs.declared.kept_fields.KeptField.{KeptField}
use Rattle.layout_map_features.specs.declared.per_table.PerTable.{PerTable}
use Rattle.layout_map_features.specs.declared.request.MergedRequest.{MergedRequest}
use Rattle.layout_map_features.specs.Fields.{global_field, own_field, first_feature_bit, bits_needed, uses_global_bit, field_of, free_bit, below_tag, field_among, kept_field, kept_fields}
use Rattle.layout_map.specs.declared.chosen_feature.feature_map_t.{feature_map_t}
use Rattle.layout_map.specs.Chosen.{ChosenTable}
use Rattle.layout_map.specs.Compiled.{IsApart}
use Rattle.layout_map.specs.Features.{feature_with}
use Rattle.layout_map.proofs.Flagless.{after_flags, shifted}

abbrev IsFieldApart : FeatureField → Type 0
IsFieldApart f = (bit_and f.mask 7 ≡ 0) × (bit_and f.one_mask 7 ≡ 0) × (f.shift < 32)

own_apart : (next count value : ℕ) → 4 ≤ next → next < 32 → IsFieldApart (own_field next count value)
own_apart next count value le lt =
    (shifted (2 ^ count - 1) next le, ap (λ n. bit_and n 7) (sym (one-mul (2 ^ next))) ∙ shifted 1 next le, lt)

apart_cases : (off glob fits : Bool) (next count value : ℕ) → 4 ≤ next → (fits ≡ true → next < 32)
    → IfSome (if off then None else if glob then Some global_field else if fits then Some (own_field next count value) else None) IsFieldApart
apart_cases true glob fits next count value le lt = tt
apart_cases false true fits next count value le lt = (refl, refl, omega arith)
apart_cases false false true next count value le lt = own_apart next count value le (lt refl)
apart_cases false false false next count value le lt = tt

below_end : (next count : ℕ) → next + count < 31 → next < 32
below_end next count lt = omega (arith, lt)

apart_field : (next : ℕ) (m : MergedRequest) → 4 ≤ next → IfSome (field_of next m) IsFieldApart
apart_field next m le =
    apart_cases (m.max_value == 0) (uses_global_bit m) (nat_lt (next + bits_needed m.max_value) 31) next (bits_needed m.max_value) m.default_value le (λ e. below_end next (bits_needed m.max_value) (ltb-true (next + bits_needed m.max_value) 31 e))

one_kept : (tables : PerTable ChosenTable) (m : MergedRequest) (field : Option FeatureField) → IfSome field IsFieldApart
    → All IsApart (map (λ (k : KeptField). feature_with tables k.request k.field) (kept_field m field))
one_kept tables m None h = All-nil IsApart
one_kept tables m (Some f) h = All-cons IsApart (feature_with tables m f) [] h (All-nil IsApart)

all_kept : (tables : PerTable ChosenTable) (all ms : List MergedRequest)
    → All IsApart (map (λ (k : KeptField). feature_with tables k.request k.field) (flat_map (λ m. kept_field m (field_among all m)) ms))
all_kept tables all [] = All-nil IsApart
all_kept tables all (m ∷ ms) =
    let make = λ (k : KeptField). feature_with tables k.request k.field in
    let next = free_bit (below_tag m.tag.0 all) in
    let field = apart_field next m (after_flags first_feature_bit (below_tag m.tag.0 all) (omega arith)) in
    rw (map-append make (kept_field m (field_among all m)) (flat_map (λ m. kept_field m (field_among all m)) ms))
    (All-append IsApart _ _ (one_kept tables m (field_among all m) field) (all_kept tables all ms))

pub features_apart : (tables : PerTable ChosenTable) (wanted : List MergedRequest) (kept : List KeptField) (fs : List feature_map_t)
    → kept ≡ kept_fields wanted → fs ≡ map (λ k. feature_with tables k.request k.field) kept → All IsApart fs
features_apart tables wanted kept fs k e = rw (e, k) (all_kept tables wanted wanted)

found_cases : (b : Bool) (g : feature_map_t) (rest : Option feature_map_t) → IsApart g → IfSome rest IsApart → IfSome (if b then Some g else rest) IsApart
found_cases true g rest h r = h
found_cases false g rest h r = r

pub found_apart : (test : feature_map_t → Bool) (fs : List feature_map_t) → All IsApart fs → IfSome (find test fs) IsApart
found_apart test [] h = tt
found_apart test (f ∷ fs) h = found_cases (test f) f (find test fs) (All-head IsApart f fs h) (found_apart test fs (All-tail IsApart f fs h))

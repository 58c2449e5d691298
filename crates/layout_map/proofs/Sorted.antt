-- The features of a map stand by rising tags.
use Rattle.std.proofs.Common.{ℕ, ◌≡◌, ◌≤◌, ◌+◌, true, List, [], ◌∷◌, ◌++◌, map, Option, Some, None, refl, sym, arith}
use Rattle.std.specs.List.{flat_map}
use Rattle.std.specs.Cmp.{nat_cmp_is}
use Rattle.std.specs.declared.cmp.Ordering.TheVariants.{Less}
use Rattle.std.specs.Ordering.{is_lt, nat_cmp}
use Rattle.std.proofs.lemmas.List.{map-append}
use Rattle.buffer_rows.specs.Keys.{is_rising}
use Rattle.layout_map_features.specs.declared.field.FeatureField.{FeatureField}
use Rattle.layout_map_features.specs.declared.kept_fields.KeptField.{KeptField}
use Rattle.layout_map_features.specs.declared.per_table.PerTable.{PerTable}
use Rattle.layout_map_features.specs.declared.request.MergedRequest.{MergedRequest}
use Rattle.layout_map_features.specs.Entering.{RisesFrom}
use Rattle.layout_map_features.specs.Fields.{field_among, kept_field, kept_fields}
use Rattle.layout_map.specs.declared.chosen_feature.feature_map_t.{feature_map_t}
use Rattle.layout_map.specs.Chosen.{ChosenTable}
use Rattle.layout_map.specs.Features.{feature_with}
use Rattle.buffer_facts.proofs.Numbers.{order_of_less as is_less}

abbrev tag_of : feature_map_t → ℕ
tag_of f = f.tag.0

abbrev feature_of : PerTable ChosenTable → KeptField → feature_map_t
feature_of tables k = feature_with tables k.request k.field

rises_lower : (low high : ℕ) (fs : List feature_map_t) → low ≤ high → RisesFrom tag_of high fs → RisesFrom tag_of low fs
rises_lower low high [] le h = tt
rises_lower low high (f ∷ fs) le h = (omega (arith, le, h.0), h.1)

kept_first : (tables : PerTable ChosenTable) (low : ℕ) (m : MergedRequest) (field : Option FeatureField) (fs : List feature_map_t) → low ≤ m.tag.0
    → RisesFrom tag_of (m.tag.0 + 1) fs → RisesFrom tag_of low (map (feature_of tables) (kept_field m field) ++ fs)
kept_first tables low m None fs le h = rises_lower low (m.tag.0 + 1) fs (omega (arith, le)) h
kept_first tables low m (Some f) fs le h = (le, h)

kept_rise : (tables : PerTable ChosenTable) (all : List MergedRequest) (low : ℕ) (ms : List MergedRequest) → RisesFrom (λ m. m.tag.0) low ms
    → RisesFrom tag_of low (map (feature_of tables) (flat_map (λ m. kept_field m (field_among all m)) ms))
kept_rise tables all low [] h = tt
kept_rise tables all low (m ∷ ms) h =
    rw (map-append (feature_of tables) (kept_field m (field_among all m)) (flat_map (λ m. kept_field m (field_among all m)) ms))
    (kept_first tables low m (field_among all m) (map (feature_of tables) (flat_map (λ m. kept_field m (field_among all m)) ms)) h.0 (kept_rise tables all (m.tag.0 + 1) ms h.1))

rising_after : (b : ℕ) (fs : List feature_map_t) → RisesFrom tag_of (b + 1) fs → is_rising nat_cmp tag_of (Some b) fs ≡ true
rising_after b [] h = refl
rising_after b (f ∷ fs) h = rw (is_less b f.tag.0 h.0) (rising_after f.tag.0 fs h.1)

rising : (fs : List feature_map_t) → RisesFrom tag_of 0 fs → is_rising nat_cmp tag_of None fs ≡ true
rising [] h = refl
rising (f ∷ fs) h = rising_after f.tag.0 fs h.1

pub features_rise : (tables : PerTable ChosenTable) (wanted : List MergedRequest) (kept : List KeptField) (fs : List feature_map_t) → RisesFrom (λ m. m.tag.0) 0 wanted
    → kept ≡ kept_fields wanted → fs ≡ map (λ k. feature_with tables k.request k.field) kept → is_rising nat_cmp (λ f. f.tag.0) None fs ≡ true
features_rise tables wanted kept fs r k e = rw (e, k) (rising (map (feature_of tables) (kept_fields wanted)) (kept_rise tables wanted 0 wanted r))

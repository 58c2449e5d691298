-- The merged requests for a feature.
use Rattle.std.specs.Prelude.{ℕ, ◌==◌, Bool, not, ◌||◌, min, max, if◌then◌else◌, List, ◌∷◌, fold}
use Rattle.std.specs.Int.RustNames.{bit_and}
use Rattle.std.specs.List.{list_any}
use Rattle.layout_map_features.specs.declared.request.FeatureRequest.{FeatureRequest}
use Rattle.layout_map_features.specs.declared.request.MergedRequest.{MergedRequest}
use Rattle.layout_map_features.specs.declared.flags.TheConstants.{F_GLOBAL, F_HAS_FALLBACK, F_MANUAL_ZWNJ, F_MANUAL_ZWJ, F_GLOBAL_SEARCH, F_RANDOM, F_PER_SYLLABLE}
use Rattle.layout_map_features.specs.Groups.{groups}

-- whether a request has a flag
abbrev pub has_flag : ℕ → FeatureRequest → Bool
has_flag flag r = not (bit_and r.flags flag == 0)

-- whether the request is for every glyph
abbrev pub is_global : FeatureRequest → Bool
is_global r = has_flag F_GLOBAL r

-- the greatest value of a glyph: a request for every glyph replaces the earlier ones, one for a range adds its value
abbrev pub greatest_value : ℕ → FeatureRequest → ℕ
greatest_value before r = if is_global r then r.value else max before r.value

-- the value of glyphs outside the ranges: that of the last request for every glyph
abbrev pub outside_value : ℕ → FeatureRequest → ℕ
outside_value before r = if is_global r then r.value else before

-- the merged requests for one feature, the first and the later ones: the last says whether the feature is global, a
-- fallback of any stays, the earliest stage stays, and the other flags are the first's
abbrev pub merged_request : FeatureRequest → List FeatureRequest → MergedRequest
merged_request first later = record {
  tag = first.tag;
  is_global = fold (λ _ r. is_global r) (is_global first) later;
  max_value = fold greatest_value first.value later;
  default_value = fold outside_value (outside_value 0 first) later;
  stage = record {
    gsub = fold (λ earliest r. min earliest r.stage.gsub) first.stage.gsub later;
    gpos = fold (λ earliest r. min earliest r.stage.gpos) first.stage.gpos later;
  };
  has_fallback = list_any (has_flag F_HAS_FALLBACK) (first ∷ later);
  global_search = has_flag F_GLOBAL_SEARCH first;
  auto_zwnj = not (has_flag F_MANUAL_ZWNJ first);
  auto_zwj = not (has_flag F_MANUAL_ZWJ first);
  random = has_flag F_RANDOM first;
  per_syllable = has_flag F_PER_SYLLABLE first;
}

-- merged requests with a later one
abbrev pub request_with_later : MergedRequest → FeatureRequest → MergedRequest
request_with_later m r = record m {
  is_global = is_global r;
  max_value = greatest_value m.max_value r;
  default_value = outside_value m.default_value r;
  stage = record { gsub = min m.stage.gsub r.stage.gsub; gpos = min m.stage.gpos r.stage.gpos };
  has_fallback = m.has_fallback || has_flag F_HAS_FALLBACK r;
}

-- the merged requests for each requested tag, by rising tags
abbrev pub merged_requests : List FeatureRequest → List MergedRequest
merged_requests requests = groups (λ r. r.tag.0) merged_request requests

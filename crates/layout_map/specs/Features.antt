-- The features of a map: the requests that are kept, and the bits of each.
use Rattle.std.specs.Prelude.{ℕ, ◌==◌, ◌||◌, Bool, if◌then◌else◌, List, map, fold, filter, find, Option, None, is_some}
use Rattle.std.specs.Option.{option_map, option_map_or}
use Rattle.std.specs.Int.RustNames.{bit_or}
use Rattle.buffer_common.specs.declared.tag.Tag.{Tag}
use Rattle.layout_map_features.specs.declared.per_table.TableIndex.{TableIndex}
use Rattle.layout_map_features.specs.declared.per_table.PerTable.{PerTable}
use Rattle.layout_map_features.specs.declared.request.MergedRequest.{MergedRequest}
use Rattle.layout_map_features.specs.declared.field.FeatureField.{FeatureField}
use Rattle.layout_map_features.specs.declared.required.RequiredFeature.{RequiredFeature}
use Rattle.layout_map_features.specs.Tables.{for_table}
use Rattle.layout_map_features.specs.Fields.{global_bit, field_among, kept_fields}
use Rattle.layout_map.specs.declared.chosen_feature.feature_map_t.{feature_map_t}
use Rattle.layout_map.specs.Chosen.{ChosenTable, system_feature, listed_feature, required_feature}

-- whether one of the tables has an index
abbrev pub in_any : PerTable (Option ℕ) → Bool
in_any index = is_some index.gsub || is_some index.gpos

-- the indices of the features of a tag in the chosen language systems
abbrev pub system_features : Tag → PerTable ChosenTable → PerTable (Option ℕ)
system_features tag tables = record { gsub = system_feature tag tables.gsub; gpos = system_feature tag tables.gpos }

-- the indices of the first features of a tag in the tables' lists
abbrev pub listed_features : Tag → PerTable ChosenTable → PerTable (Option ℕ)
listed_features tag tables = record { gsub = listed_feature tag tables.gsub; gpos = listed_feature tag tables.gpos }

-- the indices of a feature: in the language systems, else, where neither has it, in the tables' lists if the request
-- has `F_GLOBAL_SEARCH`
abbrev pub feature_index : PerTable ChosenTable → MergedRequest → PerTable (Option ℕ)
feature_index tables m =
    if in_any (system_features m.tag tables) then system_features m.tag tables
    else if m.global_search then listed_features m.tag tables
    else record { gsub = None; gpos = None }

-- whether a table has the feature, or the shaper has a fallback for it
abbrev pub is_wanted : PerTable ChosenTable → MergedRequest → Bool
is_wanted tables m = in_any (feature_index tables m) || m.has_fallback

-- the requests whose features are wanted
abbrev pub wanted_requests : PerTable ChosenTable → List MergedRequest → List MergedRequest
wanted_requests tables requests = filter (is_wanted tables) requests

-- a feature of the map: the request with its indices and its bits
abbrev pub feature_with : PerTable ChosenTable → MergedRequest → FeatureField → feature_map_t
feature_with tables m field = record {
  tag = m.tag;
  index = feature_index tables m;
  stage = m.stage;
  shift = field.shift;
  mask = field.mask;
  one_mask = field.one_mask;
  auto_zwnj = m.auto_zwnj;
  auto_zwj = m.auto_zwj;
  random = m.random;
  per_syllable = m.per_syllable;
}

-- the features of the map, by rising tags: those of the wanted requests that get a field
abbrev pub kept_features : PerTable ChosenTable → List MergedRequest → List feature_map_t
kept_features tables requests = map (λ k. feature_with tables k.request k.field) (kept_fields (wanted_requests tables requests))

-- the mask that every glyph starts with: the global bit, and each feature's value outside its ranges
abbrev pub global_mask : PerTable ChosenTable → List MergedRequest → ℕ
global_mask tables requests = fold (λ mask k. bit_or mask k.field.default_mask) global_bit (kept_fields (wanted_requests tables requests))

-- the stage of a request whose feature gets bits, even where no table has it by its tag; else the first
abbrev pub stage_if_field : TableIndex → List MergedRequest → MergedRequest → ℕ
stage_if_field table wanted m = if is_some (field_among wanted m) then for_table table m.stage else 0

-- the stage of a table's required feature: that of the request for its tag, else the first
abbrev pub stage_among : TableIndex → List MergedRequest → List MergedRequest → Tag → ℕ
stage_among table requests wanted tag =
    option_map_or (stage_if_field table wanted) (find (λ (m : MergedRequest). m.tag.0 == tag.0) requests) 0

-- the required feature of a table, and the stage that applies it
abbrev pub required_feature_in : TableIndex → ChosenTable → List MergedRequest → List MergedRequest → Option RequiredFeature
required_feature_in table t requests wanted =
    option_map (λ (r : ℕ × Tag). record { index = r.0; stage = stage_among table requests wanted r.1 }) (required_feature t)

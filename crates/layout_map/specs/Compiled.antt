-- The map that a builder compiles.
use Rattle.std.specs.Prelude.{ℕ, ◌≡◌, ◌<◌, ◌==◌, ◌&&◌, nat_le, Bool, if◌then◌else◌, List, [], ◌∷◌, ◌++◌, find, slice_range, ◌-◌, length, slice_get, Option}
use Rattle.std.specs.Int.RustNames.{bit_and}
use Rattle.std.specs.List.{flat_map}
use Rattle.std.specs.Option.{option_map_or}
use Rattle.buffer_common.specs.declared.tag.Tag.{Tag}
use Rattle.layout_face.specs.declared.substitution.SubstitutionTable.{SubstitutionTable}
use Rattle.layout_face.specs.declared.positioning.PositioningTable.{PositioningTable}
use Rattle.layout_map_features.specs.declared.per_table.TableIndex.{TableIndex}
use Rattle.layout_map_features.specs.declared.per_table.TableIndex.TheVariants.{GSUB, GPOS}
use Rattle.layout_map_features.specs.declared.per_table.PerTable.{PerTable}
use Rattle.layout_map_features.specs.declared.request.FeatureRequest.{FeatureRequest}
use Rattle.layout_map_features.specs.declared.request.MergedRequest.{MergedRequest}
use Rattle.layout_map_features.specs.Tables.{for_table}
use Rattle.layout_map_features.specs.Requests.{merged_requests}
use Rattle.layout_map.specs.declared.chosen_feature.feature_map_t.{feature_map_t}
use Rattle.layout_map_features.specs.declared.lookup.lookup_map_t.{lookup_map_t}
use Rattle.layout_map.specs.declared.stages.StageMap.{StageMap}
use Rattle.layout_map.specs.Chosen.{ChosenTable, chosen_substitution, chosen_positioning, is_script_found, script_tag}
use Rattle.layout_map.specs.Features.{wanted_requests, kept_features, global_mask, required_feature_in}
use Rattle.layout_map.specs.Lookups.{Stage, stage_lookups, stages_from, stage_ends}
use Rattle.buffer_glyphs.specs.declared.info.TheConstants.{DEFINED}

-- ---- the builder

-- the requests of a builder: features, in the order in which they were requested, and the pauses of each table
pub record MapRequests : Type 0 where
  pub tables : PerTable ChosenTable
  pub requests : List FeatureRequest
  pub pauses : PerTable (List ℕ)

-- a builder without requests
abbrev pub no_requests : List Tag → List Tag → Option SubstitutionTable → Option PositioningTable → MapRequests
no_requests scripts languages gsub gpos = record {
  tables = record { gsub = chosen_substitution scripts languages gsub; gpos = chosen_positioning scripts languages gpos };
  requests = [];
  pauses = record { gsub = []; gpos = [] };
}

-- a request is for the stage that the pauses before it began; the zero tag requests nothing
abbrev pub with_request : Tag → ℕ → ℕ → MapRequests → MapRequests
with_request tag flags value b =
    if tag.0 == 0 then b
    else record b {
      requests = b.requests ++ record {
        tag = tag;
        flags = flags;
        value = value;
        stage = record { gsub = length b.pauses.gsub; gpos = length b.pauses.gpos };
      } ∷ [];
    }

-- the requests with one more GSUB pause
abbrev pub with_gsub_pause : ℕ → MapRequests → MapRequests
with_gsub_pause pause b = record b { pauses = record b.pauses { gsub = b.pauses.gsub ++ pause ∷ [] } }

-- the requests with one more GPOS pause
abbrev pub with_gpos_pause : ℕ → MapRequests → MapRequests
with_gpos_pause pause b = record b { pauses = record b.pauses { gpos = b.pauses.gpos ++ pause ∷ [] } }

-- ---- the map

-- the stages of a table: all lookups, stage after stage, and where each stage ends
pub record TableStages : Type 0 where
  pub found_script : Bool
  pub chosen_script : Option Tag
  pub lookups : List lookup_map_t
  pub stages : List StageMap

-- a compiled map: its features, the global mask, and the stages of each table
pub record OtMapValue : Type 0 where
  pub global_mask : ℕ
  pub features : List feature_map_t
  pub tables : PerTable TableStages

-- the stages of a table for merged requests, the wanted ones of them, the features of the map, and the pauses
abbrev pub stage_list : TableIndex → ChosenTable → List MergedRequest → List MergedRequest → List feature_map_t → List ℕ → List Stage
stage_list table t requests wanted features pauses =
    stages_from (stage_lookups table t (required_feature_in table t requests wanted) features) 0 pauses

-- the stages of a table, as one list of lookups with the end of each stage
abbrev pub stages_with : TableIndex → ChosenTable → List MergedRequest → List MergedRequest → List feature_map_t → List ℕ → TableStages
stages_with table t requests wanted features pauses = record {
  found_script = is_script_found t;
  chosen_script = script_tag t;
  lookups = flat_map (λ (s : Stage). s.lookups) (stage_list table t requests wanted features pauses);
  stages = stage_ends 0 (stage_list table t requests wanted features pauses);
}

-- the stages of a table for merged requests
abbrev pub table_stages : TableIndex → PerTable ChosenTable → PerTable (List ℕ) → List MergedRequest → TableStages
table_stages table tables pauses requests =
    stages_with table (for_table table tables) requests (wanted_requests tables requests) (kept_features tables requests) (for_table table pauses)

-- the map of merged requests
abbrev pub map_with : PerTable ChosenTable → PerTable (List ℕ) → List MergedRequest → OtMapValue
map_with tables pauses requests = record {
  global_mask = global_mask tables requests;
  features = kept_features tables requests;
  tables = record { gsub = table_stages GSUB tables pauses requests; gpos = table_stages GPOS tables pauses requests };
}

-- the map of a builder's requests (`compile`)
abbrev pub compiled_map : MapRequests → OtMapValue
compiled_map b = map_with b.tables b.pauses (merged_requests b.requests)

-- a feature's bits hold no glyph flag, and the index of the lowest of them is below 32
abbrev pub IsApart : feature_map_t → Type 0
IsApart f = (bit_and f.mask DEFINED ≡ 0) × (bit_and f.one_mask DEFINED ≡ 0) × (f.shift < 32)

-- ---- queries

-- the feature of a tag in a map
abbrev pub feature_at : Tag → OtMapValue → Option feature_map_t
feature_at tag m = find (λ (f : feature_map_t). f.tag.0 == tag.0) m.features

-- the end of a stage, in the list of all lookups
abbrev pub stage_end : List StageMap → ℕ → ℕ
stage_end stages i = option_map_or (λ (s : StageMap). s.last_lookup) (slice_get stages i) 0

-- the start of a stage, in the list of all lookups
abbrev pub stage_start : List StageMap → ℕ → ℕ
stage_start stages i = if i == 0 then 0 else stage_end stages (i - 1)

-- the lookups of a stage
abbrev pub lookups_of_stage : TableStages → ℕ → List lookup_map_t
lookups_of_stage t i = slice_range t.lookups (stage_start t.stages i) (stage_end t.stages i)

-- the ends of stages never decrease, from one number on, and no end is past another
abbrev pub are_ends : ℕ → List StageMap → ℕ → Bool
are_ends before [] total = nat_le before total
are_ends before (s ∷ stages) total = nat_le before s.last_lookup && are_ends s.last_lookup stages total

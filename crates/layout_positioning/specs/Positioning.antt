-- The lookups of a map's GPOS stages, each stage ended by its pause.
use Rattle.std.specs.Prelude.{ℕ, ◌≡◌, ◌+◌, IfOk, List, [], ◌∷◌, Option, slice_get}
use Rattle.std.specs.Option.{option_map_or}
use Rattle.buffer_core.specs.Readings.{View, Stage, and_then, as_it_is}
use Rattle.layout_face.specs.declared.parts.FaceParts.{FaceParts}
use Rattle.layout_face.specs.declared.positioning.PositioningLookup.{PositioningLookup}
use Rattle.layout_map_features.specs.declared.lookup.lookup_map_t.{lookup_map_t}
use Rattle.layout_map.specs.declared.stages.StageMap.{StageMap}
use Rattle.layout_map.specs.Compiled.{OtMapValue, TableStages, lookups_of_stage}
use Rattle.buffer_stages.specs.Pauses.{Pauses, pause_stage}
use Rattle.layout_positioning.specs.Lookups.{lookup_stage}

-- lookups of a map, one after another
abbrev pub lookups_stage : FaceParts → List PositioningLookup → List lookup_map_t → Stage
lookups_stage font table [] v = as_it_is v
lookups_stage font table (m ∷ maps) v = and_then (lookup_stage font table (slice_get table m.index) m v) (lookups_stage font table maps)

-- the lookups of a GPOS stage, then its pause
abbrev pub table_stage : FaceParts → List PositioningLookup → TableStages → Pauses → ℕ → Option ℕ → Stage
table_stage font lookups t pauses i pause v = and_then (lookups_stage font lookups (lookups_of_stage t i) v) (pause_stage pauses pause)

-- GPOS stages from one on, each by its index
abbrev pub table_stages : FaceParts → List PositioningLookup → TableStages → Pauses → ℕ → List StageMap → Stage
table_stages font lookups t pauses i [] v = as_it_is v
table_stages font lookups t pauses i (s ∷ stages) v = and_then (table_stage font lookups t pauses i s.pause v) (table_stages font lookups t pauses (i + 1) stages)

-- the font's GPOS lookups, none where it has no GPOS table
abbrev pub positioning_lookups : FaceParts → List PositioningLookup
positioning_lookups font = option_map_or (λ t. t.lookups) font.gpos []

-- the GPOS stages of a map; no number is drawn at random
abbrev pub positioning_stages : FaceParts → OtMapValue → Pauses → Stage
positioning_stages font m pauses v = table_stages font (positioning_lookups font) m.tables.gpos pauses 0 m.tables.gpos.stages v

-- a pipeline stage that leaves the items as they are
abbrev pub LeavesItems : Stage → Type 0
LeavesItems stage = (v : View) → IfOk (stage v) (λ r. r.view.items ≡ v.items)

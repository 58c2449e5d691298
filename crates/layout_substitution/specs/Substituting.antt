-- The lookups of a map's GSUB stages, each stage ended by its pause.
use Rattle.std.specs.Prelude.{ℕ, ◌+◌, List, [], ◌∷◌, Option}
use Rattle.std.specs.Option.{option_map_or}
use Rattle.buffer_core.specs.Readings.{Stage, and_then, as_it_is}
use Rattle.layout_face.specs.declared.parts.FaceParts.{FaceParts}
use Rattle.layout_face.specs.declared.substitution.SubstLookup.{SubstLookup}
use Rattle.layout_map.specs.declared.stages.StageMap.{StageMap}
use Rattle.layout_map.specs.Compiled.{OtMapValue, TableStages, lookups_of_stage}
use Rattle.buffer_stages.specs.Pauses.{Pauses, pause_stage, with_own_random}
use Rattle.layout_substitution.specs.Lookups.{lookups_stage}

-- the lookups of a GSUB stage, then its pause
abbrev pub table_stage : FaceParts → List SubstLookup → TableStages → Pauses → ℕ → Option ℕ → Stage
table_stage font lookups t pauses i pause v = and_then (lookups_stage font lookups (lookups_of_stage t i) v) (pause_stage pauses pause)

-- GSUB stages from one on, each by its index
abbrev pub table_stages : FaceParts → List SubstLookup → TableStages → Pauses → ℕ → List StageMap → Stage
table_stages font lookups t pauses i [] v = as_it_is v
table_stages font lookups t pauses i (s ∷ stages) v = and_then (table_stage font lookups t pauses i s.pause v) (table_stages font lookups t pauses (i + 1) stages)

-- the font's GSUB lookups, none where it has no GSUB table
abbrev pub substitution_lookups : FaceParts → List SubstLookup
substitution_lookups font = option_map_or (λ t. t.lookups) font.gsub []

-- the GSUB stages of a map; random numbers are drawn from one state, 1 at first
abbrev pub substitution_stages : FaceParts → OtMapValue → Pauses → Stage
substitution_stages font m pauses v = with_own_random (table_stages font (substitution_lookups font) m.tables.gsub pauses 0 m.tables.gsub.stages) v

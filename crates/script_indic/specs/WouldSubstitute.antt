-- Whether a feature would form glyphs that are all the input (HarfBuzz: hb_indic_would_substitute_feature_t).
use Rattle.std.specs.Prelude.{ℕ, Bool, false, List, [], Option, None, Some, slice_get}
use Rattle.std.specs.List.{list_any}
use Rattle.std.specs.Option.{option_and_then, option_map, option_map_or}
use Rattle.buffer_common.specs.declared.tag.Tag.{Tag}
use Rattle.layout_face.specs.declared.parts.FaceParts.{FaceParts}
use Rattle.layout_face.specs.declared.substitution.SubstLookup.{SubstLookup}
use Rattle.layout_face.specs.declared.substitution.SubstitutionTable.{SubstitutionTable}
use Rattle.layout_map.specs.Compiled.{OtMapValue, feature_at, lookups_of_stage}
use Rattle.layout_map.specs.declared.chosen_feature.feature_map_t.{feature_map_t}
use Rattle.layout_map_features.specs.declared.lookup.lookup_map_t.{lookup_map_t}
use Rattle.layout_face.specs.WouldApplyLookups.{lookup_would}
use Rattle.script_indic.specs.declared.would_substitute.IndicWouldSubstituteFeature.{IndicWouldSubstituteFeature}

-- the GSUB stage of a feature, none where the map lacks the feature
abbrev pub feature_stage : Tag → OtMapValue → Option ℕ
feature_stage tag m = option_map (λ (f : feature_map_t). f.stage.gsub) (feature_at tag m)

-- the GSUB lookup of a font at an index, none where the font has no such lookup
abbrev pub lookup_at : ℕ → FaceParts → Option SubstLookup
lookup_at index font = option_and_then (λ (t : SubstitutionTable). slice_get t.lookups index) font.gsub

-- the lookup of a font at an index would apply to glyphs that are all its input; `zero` says that rules don't count
-- that require glyphs before or after the input
abbrev pub font_lookup_would : FaceParts → List ℕ → Bool → ℕ → Bool
font_lookup_would font glyphs zero index = option_map_or (λ (l : SubstLookup). lookup_would l.subtables glyphs zero) (lookup_at index font) false

-- one of a map's lookups would apply to glyphs that are all its input
abbrev pub any_would : FaceParts → List ℕ → Bool → List lookup_map_t → Bool
any_would font glyphs zero lookups = list_any (λ (l : lookup_map_t). font_lookup_would font glyphs zero l.index) lookups

-- the lookups of a GSUB stage of a map; none without a stage, or where the map has no such stage
abbrev pub lookups_at_stage : Option ℕ → OtMapValue → List lookup_map_t
lookups_at_stage None m = []
lookups_at_stage (Some stage) m = lookups_of_stage m.tables.gsub stage

-- a feature of a map, to be tested on glyphs
abbrev pub substitute_feature : Tag → Bool → OtMapValue → IndicWouldSubstituteFeature
substitute_feature tag zero m = record { stage = feature_stage tag m; zero_context = zero }

-- a feature would form glyphs: one of the lookups of the feature's stage would apply to the glyphs as all its input
abbrev pub would_substitute : IndicWouldSubstituteFeature → OtMapValue → FaceParts → List ℕ → Bool
would_substitute feature m font glyphs = any_would font glyphs feature.zero_context (lookups_at_stage feature.stage m)

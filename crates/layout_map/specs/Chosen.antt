-- The script and the language system that are chosen for a text in each layout table, and the features found there.
use Rattle.std.specs.Prelude.{ℕ, ◌==◌, nat_lt, if◌then◌else◌, List, [], length, position, slice_get, Option, Some, None, Bool, false}
use Rattle.std.specs.Option.{option_map, option_map_or, option_and_then}
use Rattle.buffer_common.specs.declared.tag.Tag.{Tag}
use Rattle.layout_tables.specs.Layout.{LayoutLists, FeatureTable, LangSysTable}
use Rattle.layout_face.specs.declared.substitution.SubstitutionTable.{SubstitutionTable}
use Rattle.layout_face.specs.declared.positioning.PositioningTable.{PositioningTable}
use Rattle.layout_tables.specs.Choice.{ChosenScript, chosen_script, chosen_lang_sys, language_feature, required_language_feature}

-- a layout table's features, with the script and the language system that are chosen for a text
pub record ChosenTable : Type 0 where
  pub script : Option ChosenScript
  pub system : Option LangSysTable
  pub features : List FeatureTable
  pub lookup_count : ℕ

-- the features of a table; a font without the table has none there
abbrev pub features_of : Option LayoutLists → List FeatureTable
features_of table = option_map_or (λ (t : LayoutLists). t.features) table []

-- the script that is chosen for the wanted scripts
abbrev pub script_of : List Tag → Option LayoutLists → Option ChosenScript
script_of scripts table = option_and_then (λ (t : LayoutLists). chosen_script scripts t.scripts) table

-- the table, of n lookups, for the wanted scripts and languages, the best first
abbrev pub chosen_table : List Tag → List Tag → Option LayoutLists → ℕ → ChosenTable
chosen_table scripts languages table lookup_count = record {
  script = script_of scripts table;
  system = option_and_then (λ (c : ChosenScript). chosen_lang_sys languages c.script) (script_of scripts table);
  features = features_of table;
  lookup_count = lookup_count;
}

-- the GSUB table, where a font has it
abbrev pub chosen_substitution : List Tag → List Tag → Option SubstitutionTable → ChosenTable
chosen_substitution scripts languages None = chosen_table scripts languages None 0
chosen_substitution scripts languages (Some t) = chosen_table scripts languages (Some t.inner) (length t.lookups)

-- the GPOS table, where a font has it
abbrev pub chosen_positioning : List Tag → List Tag → Option PositioningTable → ChosenTable
chosen_positioning scripts languages None = chosen_table scripts languages None 0
chosen_positioning scripts languages (Some t) = chosen_table scripts languages (Some t.inner) (length t.lookups)

-- ---- features found there

-- whether the chosen script is one of those that were wanted
abbrev pub is_script_found : ChosenTable → Bool
is_script_found t = option_map_or (λ (c : ChosenScript). c.found) t.script false

-- the tag of the chosen script
abbrev pub script_tag : ChosenTable → Option Tag
script_tag t = option_map (λ (c : ChosenScript). c.script.tag) t.script

-- the index of the language system's feature of a tag
abbrev pub system_feature : Tag → ChosenTable → Option ℕ
system_feature tag t = option_and_then (λ (s : LangSysTable). language_feature tag s t.features) t.system

-- an index, if it fits 16 bits
abbrev pub short_index : ℕ → Option ℕ
short_index i = if nat_lt i 65536 then Some i else None

-- the index of the first feature of a tag in the table's list, if it fits 16 bits
abbrev pub listed_feature : Tag → ChosenTable → Option ℕ
listed_feature tag t = option_and_then short_index (position (λ (f : FeatureTable). f.tag.0 == tag.0) t.features)

-- the index and the tag of the language system's required feature
abbrev pub required_feature : ChosenTable → Option (ℕ × Tag)
required_feature t = option_and_then (λ (s : LangSysTable). required_language_feature s t.features) t.system

-- the lookups of the feature at an index
abbrev pub lookups_at : ChosenTable → ℕ → List ℕ
lookups_at t i = option_map_or (λ (f : FeatureTable). f.lookups) (slice_get t.features i) []

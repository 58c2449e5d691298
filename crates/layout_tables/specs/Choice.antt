-- The script, language system and feature of a layout table that are chosen for a text (OpenType, chapter 2).
use Rattle.std.specs.Prelude.{ℕ, ◌==◌, Bool, true, false, List, [], ◌∷◌, codes, find, is_some, slice_get, Option}
use Rattle.std.specs.Option.{option_or, option_map, option_map_or, option_and_then}
use Rattle.buffer_common.specs.declared.tag.Tag.{Tag}
use Rattle.buffer_common.specs.Tag.{tag_of}
use Rattle.layout_tables.specs.Layout.{LangSysTable, ScriptTable, FeatureTable, script_with, lang_sys_with}

-- the record of the first tag that has one
abbrev pub first_found : {R : Type 0} → (Tag → Option R) → List Tag → Option R
first_found record_of tags = option_and_then record_of (find (λ tag. is_some (record_of tag)) tags)

-- ---- scripts

-- the script of the first tag that has one
abbrev pub first_script : List Tag → List ScriptTable → Option ScriptTable
first_script tags scripts = first_found (λ tag. script_with tag scripts) tags

-- the tags of a script for scripts that the table lacks: the registered one, a misspelling that fonts have, and Latin,
-- under which old fonts keep the features of other scripts
abbrev pub default_scripts : List Tag
default_scripts = tag_of (codes "DFLT") ∷ tag_of (codes "dflt") ∷ tag_of (codes "latn") ∷ []

-- a script, and whether it is one that was wanted
pub record ChosenScript : Type 0 where
  pub found : Bool
  pub script : ScriptTable

-- a script that was wanted
abbrev pub wanted_script : ScriptTable → ChosenScript
wanted_script script = record { found = true; script = script }

-- a script that was not wanted
abbrev pub other_script : ScriptTable → ChosenScript
other_script script = record { found = false; script = script }

-- the first wanted script that the table has, else the first default script that it has
abbrev pub chosen_script : List Tag → List ScriptTable → Option ChosenScript
chosen_script wanted scripts =
    option_or (option_map wanted_script (first_script wanted scripts)) (option_map other_script (first_script default_scripts scripts))

-- ---- language systems

-- the language system of the first tag that has one
abbrev pub first_lang_sys : List Tag → ScriptTable → Option LangSysTable
first_lang_sys tags script = option_map (λ s. s.lang_sys) (first_found (λ tag. lang_sys_with tag script.lang_systems) tags)

-- the tag of a language system for languages without one
abbrev pub default_language : Tag
default_language = tag_of (codes "dflt")

-- the first wanted language system that the script has, else the one tagged as the default, else the default system
abbrev pub chosen_lang_sys : List Tag → ScriptTable → Option LangSysTable
chosen_lang_sys wanted script =
    option_or (first_lang_sys wanted script) (option_or (first_lang_sys (default_language ∷ []) script) script.default_lang_sys)

-- ---- features

-- whether the feature at an index of the list of features has the tag
abbrev pub has_tag_at : List FeatureTable → Tag → ℕ → Bool
has_tag_at features tag i = option_map_or (λ f. f.tag.0 == tag.0) (slice_get features i) false

-- the index of the first feature of the tag that a language system has
abbrev pub language_feature : Tag → LangSysTable → List FeatureTable → Option ℕ
language_feature tag system features = find (has_tag_at features tag) system.features

-- the index of a language system's required feature, and the feature's tag
abbrev pub required_language_feature : LangSysTable → List FeatureTable → Option (ℕ × Tag)
required_language_feature system features =
    option_and_then (λ i. option_map (λ f. (i, f.tag)) (slice_get features i)) system.required_feature

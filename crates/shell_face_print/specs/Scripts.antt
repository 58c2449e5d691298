-- Scripts and features of a layout table (OpenType, chapter 2).
use Rattle.std.specs.Prelude.{[], ◌∷◌, codes, option_map}
use Rattle.serde_json.specs.Data.{Data, object, member, no_members}
use Rattle.layout_tables.specs.Layout.{LangSysTable, LangSysEntry, ScriptTable, FeatureTable, LayoutLists}
use Rattle.shell_print_json.specs.Values.{natural, row, list_of, or_null, member_if}
use Rattle.shell_face_print.specs.Tags.{tag_json, printable_records}

-- a language system; without a required feature it has no key `required`
abbrev pub lang_sys_json : LangSysTable → Data
lang_sys_json s = object (
    member (codes "features") (list_of natural s.features) (
    member_if (codes "required") (option_map natural s.required_feature) no_members))

-- a language system with its tag
abbrev pub lang_sys_entry_json : LangSysEntry → Data
lang_sys_entry_json r = row (tag_json r.tag ∷ lang_sys_json r.lang_sys ∷ [])

-- a script: its tag, its default language system, and those whose tags are printable
abbrev pub script_json : ScriptTable → Data
script_json s = row (
    tag_json s.tag
    ∷ or_null lang_sys_json s.default_lang_sys
    ∷ list_of lang_sys_entry_json (printable_records (λ r. r.tag.0) s.lang_systems)
    ∷ [])

-- a feature: its tag and its lookup indices
abbrev pub feature_json : FeatureTable → Data
feature_json f = row (tag_json f.tag ∷ list_of natural f.lookups ∷ [])

-- a layout table: scripts whose tags are printable, features in the order of their indices, and lookups
abbrev pub layout_json : LayoutLists → Data → Data
layout_json t lookups = object (
    member (codes "scripts") (list_of script_json (printable_records (λ s. s.tag.0) t.scripts)) (
    member (codes "features") (list_of feature_json t.features) (
    member (codes "lookups") lookups no_members)))

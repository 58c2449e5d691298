-- How many rows scripts, features and glyph definitions have (OpenType, chapter 2, and GDEF).
use Rattle.std.specs.Prelude.{ℕ, ◌+◌, length}
use Rattle.layout_common.specs.declared.class_definition.ClassDefinition.{ClassDefinition}
use Rattle.layout_tables.specs.Layout.{LangSysTable, LangSysEntry, ScriptTable, FeatureTable, LayoutLists}
use Rattle.layout_face.specs.declared.parts.GlyphDefinition.{GlyphDefinition}
use Rattle.font_laws.specs.RowCounts.{total_row_count, optional_row_count}

-- a language system: the indices of its features
abbrev pub lang_sys_row_count : LangSysTable → ℕ
lang_sys_row_count s = length s.features

-- the language system of a record
abbrev pub lang_sys_entry_row_count : LangSysEntry → ℕ
lang_sys_entry_row_count r = lang_sys_row_count r.lang_sys

-- a script: its language systems
abbrev pub script_row_count : ScriptTable → ℕ
script_row_count s = optional_row_count lang_sys_row_count s.default_lang_sys + total_row_count lang_sys_entry_row_count s.lang_systems

-- a feature: the indices of its lookups
abbrev pub feature_row_count : FeatureTable → ℕ
feature_row_count f = length f.lookups

-- the script list and the feature list
abbrev pub list_row_count : LayoutLists → ℕ
list_row_count t = total_row_count script_row_count t.scripts + total_row_count feature_row_count t.features

-- a class definition table: the glyphs that have a class
abbrev pub class_row_count : ClassDefinition → ℕ
class_row_count c = length c.rows

-- GDEF: glyph classes, attachment classes, the coverages of mark glyph sets
abbrev pub definition_row_count : GlyphDefinition → ℕ
definition_row_count d = optional_row_count class_row_count d.classes + class_row_count d.attach + total_row_count length d.sets

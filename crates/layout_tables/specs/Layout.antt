-- The common lists of the layout tables of a font (OpenType, chapter 2): scripts with their language systems, and
-- features; and sets of ligatures (GSUB lookup type 4).
use Rattle.std.specs.Prelude.{ℕ, ◌==◌, List, Option, find}
use Rattle.buffer_common.specs.declared.tag.Tag.{Tag}

-- a language system's features, by their indices in the list of features
pub record LangSysTable : Type 0 where
  pub required_feature : Option ℕ
  pub features : List ℕ

-- a language system with its tag
pub record LangSysEntry : Type 0 where
  pub tag : Tag
  pub lang_sys : LangSysTable

-- a script with its language systems, and the default one for other languages
pub record ScriptTable : Type 0 where
  pub tag : Tag
  pub default_lang_sys : Option LangSysTable
  pub lang_systems : List LangSysEntry

-- a feature, with the indices of its lookups in the list of lookups
pub record FeatureTable : Type 0 where
  pub tag : Tag
  pub lookups : List ℕ

-- a ligature: the components after the first, and the glyph that replaces all components
pub record LigatureTable : Type 0 where
  pub components : List ℕ
  pub glyph : ℕ

-- the ligatures that begin with a glyph, in the order of preference
pub record LigatureSetTable : Type 0 where
  pub first : ℕ
  pub ligatures : List LigatureTable

-- scripts and features of a table; the lookups of GSUB and GPOS have types of their own
pub record LayoutLists : Type 0 where
  pub scripts : List ScriptTable
  pub features : List FeatureTable

-- ---- look-ups

-- the script of a tag
abbrev pub script_with : Tag → List ScriptTable → Option ScriptTable
script_with tag scripts = find (λ s. s.tag.0 == tag.0) scripts

-- the language system of a tag
abbrev pub lang_sys_with : Tag → List LangSysEntry → Option LangSysEntry
lang_sys_with tag systems = find (λ s. s.tag.0 == tag.0) systems

-- the ligatures that begin with a glyph; the subtable covers the glyphs that have such a set
abbrev pub ligature_set_of : ℕ → List LigatureSetTable → Option LigatureSetTable
ligature_set_of glyph sets = find (λ s. s.first == glyph) sets

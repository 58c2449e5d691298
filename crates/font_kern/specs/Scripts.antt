-- The scripts of GPOS whose language systems get the feature `kern` (HarfBuzz kerns by the table kern where GPOS doesn't).
use Rattle.std.specs.Prelude.{ℕ, ◌+◌, ◌==◌, ◌&&◌, ◌||◌, nat_le, Bool, true, false, not, if◌then◌else◌, List, [], ◌∷◌, ◌++◌, map, length, codes, is_some, Option, Some, None, unwrap_or}
use Rattle.std.specs.List.{list_any, list_all, filter}
use Rattle.std.specs.Option.{option_map_or, option_or}
use Rattle.std.specs.Ordering.{nat_cmp}
use Rattle.buffer_common.specs.declared.tag.Tag.{Tag}
use Rattle.buffer_common.specs.Tag.{tag_of}
use Rattle.buffer_common.specs.declared.script.Script.{Script}
use Rattle.buffer_common.specs.declared.script.TheConstants as script
use Rattle.buffer_common.specs.Direction.{is_among}
use Rattle.buffer_unicode.specs.Scripts.{script_of}
use Rattle.buffer_rows.specs.KeyOrder.{key_order}
use Rattle.layout_face.specs.declared.parts.CharacterRow.{CharacterRow}
use Rattle.layout_tables.specs.Layout.{LangSysTable, LangSysEntry, ScriptTable, FeatureTable, LayoutLists, script_with}
use Rattle.layout_tables.specs.Choice.{default_scripts, first_script, language_feature}
use Rattle.font_kern.specs.declared.scripts.BackwardScript.{BackwardScript}
use Rattle.font_kern.specs.declared.scripts.ScriptRow.{ScriptRow}
use Rattle.font_common.specs.Rows.{first_rows}
use Rattle.font_kern.specs.Lookups.{kern_tag}

-- ---- scripts that are written from right to left

-- a script with its tag
abbrev pub backward_script : Script → List ℕ → BackwardScript
backward_script s text = record { script = s; tag = tag_of text }

-- the scripts that are written from right to left, with their tags in OpenType's registry. Old Hungarian, which was written either
-- way, is none of them
abbrev pub backward_scripts : List BackwardScript
backward_scripts =
    backward_script script.ADLAM (codes "adlm") ∷
    backward_script script.ARABIC (codes "arab") ∷
    backward_script script.IMPERIAL_ARAMAIC (codes "armi") ∷
    backward_script script.AVESTAN (codes "avst") ∷
    backward_script script.CHORASMIAN (codes "chrs") ∷
    backward_script script.CYPRIOT (codes "cprt") ∷
    backward_script script.ELYMAIC (codes "elym") ∷
    backward_script script.GARAY (codes "gara") ∷
    backward_script script.HATRAN (codes "hatr") ∷
    backward_script script.KHAROSHTHI (codes "khar") ∷
    backward_script script.LYDIAN (codes "lydi") ∷
    backward_script script.MANDAIC (codes "mand") ∷
    backward_script script.MANICHAEAN (codes "mani") ∷
    backward_script script.MENDE_KIKAKUI (codes "mend") ∷
    backward_script script.MEROITIC_CURSIVE (codes "merc") ∷
    backward_script script.MEROITIC_HIEROGLYPHS (codes "mero") ∷
    backward_script script.OLD_NORTH_ARABIAN (codes "narb") ∷
    backward_script script.NABATAEAN (codes "nbat") ∷
    backward_script script.NKO (codes "nko ") ∷
    backward_script script.OLD_TURKIC (codes "orkh") ∷
    backward_script script.OLD_UYGHUR (codes "ougr") ∷
    backward_script script.PALMYRENE (codes "palm") ∷
    backward_script script.INSCRIPTIONAL_PAHLAVI (codes "phli") ∷
    backward_script script.PSALTER_PAHLAVI (codes "phlp") ∷
    backward_script script.PHOENICIAN (codes "phnx") ∷
    backward_script script.INSCRIPTIONAL_PARTHIAN (codes "prti") ∷
    backward_script script.HANIFI_ROHINGYA (codes "rohg") ∷
    backward_script script.SAMARITAN (codes "samr") ∷
    backward_script script.OLD_SOUTH_ARABIAN (codes "sarb") ∷
    backward_script script.SOGDIAN (codes "sogd") ∷
    backward_script script.OLD_SOGDIAN (codes "sogo") ∷
    backward_script script.SYRIAC (codes "syrc") ∷
    backward_script script.THAANA (codes "thaa") ∷
    backward_script script.YEZIDI (codes "yezi") ∷
    []

-- the tag of Hebrew
abbrev pub hebrew_tag : Tag
hebrew_tag = tag_of (codes "hebr")

-- whether texts of a script, by its tag, run from right to left
abbrev pub is_backward_tag : Tag → Bool
is_backward_tag tag = tag.0 == hebrew_tag.0 || list_any (λ b. b.tag.0 == tag.0) backward_scripts

-- whether a character is of the blocks that Unicode keeps for scripts from right to left (UAX 9)
abbrev pub is_in_backward_block : ℕ → Bool
is_in_backward_block c = nat_le 0x590 c && nat_le c 0x8FF || nat_le 0xFB1D c && nat_le c 0xFEFF || nat_le 0x10800 c && nat_le c 0x10FFF
    || nat_le 0x1E800 c && nat_le c 0x1EFFF

-- the scripts of the characters of those blocks
abbrev pub scripts_of : List CharacterRow → List Script
scripts_of characters = map (λ r. script_of r.character) (filter (λ r. is_in_backward_block r.character) characters)

-- whether two directions are one
abbrev pub same_direction : Bool → Bool → Bool
same_direction true b = b
same_direction false b = not b

-- ---- systems that lack the feature

-- whether a language system has the feature
abbrev pub has_kern : List FeatureTable → LangSysTable → Bool
has_kern features system = is_some (language_feature kern_tag system features)

-- whether one of a script's systems lacks it; a default system that isn't there does
abbrev pub lacks_kern : List FeatureTable → ScriptTable → Bool
lacks_kern features s =
    not (option_map_or (has_kern features) s.default_lang_sys false && list_all (λ r. has_kern features r.lang_sys) s.lang_systems)

-- ---- scripts

-- a script without systems
abbrev pub plain_script : ScriptTable
plain_script = record { tag = tag_of (codes "DFLT"); default_lang_sys = None; lang_systems = [] }

-- the script that serves texts whose own script the table lacks
abbrev pub usual_script : List ScriptTable → ScriptTable
usual_script scripts = unwrap_or (first_script default_scripts scripts) plain_script

-- whether a script lacks the feature, or texts of other scripts have no script that serves them
abbrev pub needs_kern : LayoutLists → Bool
needs_kern t = list_any (lacks_kern t.features) t.scripts || not (is_some (first_script default_scripts t.scripts))

-- a script by its tag, with its direction
abbrev pub script_row : Tag → ScriptRow
script_row tag = record { tag = tag; is_backward = is_backward_tag tag }

-- the rows of the scripts of a list that are among others
abbrev pub rows_among : List Script → List BackwardScript → List ScriptRow
rows_among scripts known = map (λ b. script_row b.tag) (filter (λ b. is_among scripts b.script) known)

-- the scripts from right to left of a font's characters. Hebrew is positioned without GPOS where that lacks it, and is none of them
abbrev pub backward_rows : List CharacterRow → List ScriptRow
backward_rows characters = rows_among (scripts_of characters) backward_scripts

-- where the usual script lacks the feature those that it serves and that kern otherwise
abbrev pub served_rows : List FeatureTable → List ScriptTable → List CharacterRow → List ScriptRow
served_rows features scripts characters = if lacks_kern features (usual_script scripts) then backward_rows characters else []

-- the scripts of a table, the usual one, and those that it serves from right to left
abbrev pub offered_rows : List FeatureTable → List ScriptTable → List CharacterRow → List ScriptRow
offered_rows features scripts characters =
    map (λ s. script_row s.tag) scripts ++ script_row (usual_script scripts).tag ∷ served_rows features scripts characters

-- the scripts that may lack the feature, by rising tags, each once
abbrev pub script_rows : List FeatureTable → List ScriptTable → List CharacterRow → List ScriptRow
script_rows features scripts characters =
    first_rows nat_cmp (λ r. r.tag.0) None (key_order (λ r. r.tag.0) (offered_rows features scripts characters))

-- the script of a tag, else the usual one
abbrev pub source_script : List ScriptTable → Tag → ScriptTable
source_script scripts tag = unwrap_or (option_or (script_with tag scripts) (first_script default_scripts scripts)) plain_script

-- whether a script of a direction lacks the feature
abbrev pub lacks_direction : Bool → List FeatureTable → List ScriptTable → List ScriptRow → Bool
lacks_direction is_backward features scripts rows =
    list_any (λ r. same_direction r.is_backward is_backward && lacks_kern features (source_script scripts r.tag)) rows

-- ---- scripts with the feature

-- a language system with the feature of an index, unless it has one
abbrev pub kerned_system : List FeatureTable → ℕ → LangSysTable → LangSysTable
kerned_system features index system =
    if has_kern features system then system else record { required_feature = system.required_feature; features = system.features ++ index ∷ [] }

-- a default language system; one that isn't there has no other feature
abbrev pub kerned_default : List FeatureTable → ℕ → Option LangSysTable → LangSysTable
kerned_default features index None = record { required_feature = None; features = index ∷ [] }
kerned_default features index (Some system) = kerned_system features index system

-- a language system with its tag
abbrev pub kerned_entry : List FeatureTable → ℕ → LangSysEntry → LangSysEntry
kerned_entry features index r = record { tag = r.tag; lang_sys = kerned_system features index r.lang_sys }

-- language systems by rising tags
abbrev pub kerned_entries : List FeatureTable → ℕ → List LangSysEntry → List LangSysEntry
kerned_entries features index rs = first_rows nat_cmp (λ r. r.tag.0) None (map (kerned_entry features index) rs)

-- a script of a tag, with the systems of one, and the feature of an index in those that lack it
abbrev pub kerned_script : List FeatureTable → ℕ → Tag → ScriptTable → ScriptTable
kerned_script features index tag s = record {
  tag = tag;
  default_lang_sys = Some (kerned_default features index s.default_lang_sys);
  lang_systems = kerned_entries features index s.lang_systems;
}

-- the index of a direction's feature: after those of the table, first that of texts from left to right, where there is one
abbrev pub index_of_direction : ℕ → Bool → Bool → ℕ
index_of_direction count lacks_forward is_backward = if is_backward && lacks_forward then count + 1 else count

-- the scripts with the feature of their direction
abbrev pub kerned_scripts : List FeatureTable → List ScriptTable → Bool → List ScriptRow → List ScriptTable
kerned_scripts features scripts lacks_forward rows =
    map (λ r. kerned_script features (index_of_direction (length features) lacks_forward r.is_backward) r.tag (source_script scripts r.tag)) rows

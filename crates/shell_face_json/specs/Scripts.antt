-- Scripts and features of a layout table.
use Rattle.std.specs.Prelude.{ℕ, if◌then◌else◌, List, codes, Option, None, Result, Ok, Err, ⊤}
use Rattle.std.specs.Ordering.{nat_cmp}
use Rattle.serde_json.specs.Data.{Data}
use Rattle.serde_json.specs.Find.{get}
use Rattle.shell_json.specs.declared.fault.JsonFault.{JsonFault}
use Rattle.shell_json.specs.declared.fault.JsonFault.TheVariants.{OutOfOrder}
use Rattle.shell_json.specs.Cell.{and_then, both}
use Rattle.shell_json.specs.Objects.{optional_value}
use Rattle.shell_face_json.specs.Lists.{number_below, or_null, is_object, items_of, value_list, rows_at, rows_in_turn, count_at}
use Rattle.shell_face_json.specs.Row.{row_of_two, row_of_three}
use Rattle.shell_face_json.specs.Sorted.{rows_by_key}
use Rattle.layout_tables.specs.Keyed.{is_rising}
use Rattle.layout_tables.specs.Layout.{LangSysTable, LangSysEntry, ScriptTable, FeatureTable, LayoutLists}
use Rattle.buffer_common.specs.declared.tag.Tag.{Tag}
use Rattle.shell_json.specs.Items.{tag}

-- ---- scripts, in a table whose number of features is the limit

-- the index of the required feature, none where the key is missing
abbrev pub required_feature : ℕ → Data → Result (Option ℕ) JsonFault
required_feature limit d = optional_value (number_below limit) (get (codes "required") d)

-- the feature indices of a language system
abbrev pub system_features : ℕ → Data → Result (List ℕ) JsonFault
system_features limit d = rows_at (codes "features") (items_of (number_below limit)) d

-- a language system: of its keys' faults the one that is first by its kind is the result
abbrev pub lang_sys : ℕ → Data → Result LangSysTable JsonFault
lang_sys limit d =
    and_then (is_object d) (λ _.
    and_then (both (required_feature limit d) (system_features limit d)) (λ p.
    Ok (record { required_feature = p.0; features = p.1 })))

-- a language system with its tag
abbrev pub lang_sys_entry : ℕ → Data → Result LangSysEntry JsonFault
lang_sys_entry limit d = and_then (row_of_two tag (lang_sys limit) d) (λ p. Ok (record { tag = p.0; lang_sys = p.1.0 }))

-- a script whose language systems rise by their tags
abbrev pub script_of_fields : Tag × (Option LangSysTable × (List LangSysEntry × ⊤)) → Result ScriptTable JsonFault
script_of_fields p =
    if is_rising (λ s. s.tag.0) None p.1.1.0
    then Ok (record { tag = p.0; default_lang_sys = p.1.0; lang_systems = p.1.1.0 })
    else Err OutOfOrder

-- a script: its tag, a default language system or null, and language systems by rising tags
abbrev pub script : ℕ → Data → Result ScriptTable JsonFault
script limit d = and_then (row_of_three tag (or_null (lang_sys limit)) (value_list (lang_sys_entry limit)) d) script_of_fields

-- ---- features, in a table whose number of lookups is the limit

-- a feature: its tag and its lookup indices
abbrev pub feature : ℕ → Data → Result FeatureTable JsonFault
feature limit d = and_then (row_of_two tag (value_list (number_below limit)) d) (λ p. Ok (record { tag = p.0; lookups = p.1.0 }))

-- ---- a table

-- scripts and features; an index must be below the length of the list that it points into
abbrev pub layout_of : Data → Result LayoutLists JsonFault
layout_of d =
    and_then (rows_at (codes "scripts") (rows_by_key nat_cmp (λ s. s.tag.0) (script (count_at (codes "features") d)) None) d) (λ scripts.
    and_then (rows_at (codes "features") (rows_in_turn (feature (count_at (codes "lookups") d))) d) (λ features.
    Ok (record { scripts = scripts; features = features })))

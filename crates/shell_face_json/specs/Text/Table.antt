-- Scripts and features by the values of their keys.
use Rattle.std.specs.Prelude.{ℕ, Option, None, Result, Ok}
use Rattle.std.specs.Ordering.{nat_cmp}
use Rattle.serde_json.specs.Data.{Data}
use Rattle.shell_json.specs.declared.fault.JsonFault.{JsonFault}
use Rattle.shell_json.specs.Cell.{and_then}
use Rattle.shell_json.specs.Items.{list_or_none}
use Rattle.shell_face_json.specs.Lists.{count_of, rows_in_turn}
use Rattle.shell_face_json.specs.Scripts.{script, feature}
use Rattle.shell_face_json.specs.Sorted.{rows_by_key}
use Rattle.layout_tables.specs.Layout.{LayoutLists}

-- the scripts and features of a table, by the values of their keys and the number of lookups
abbrev pub layout_in : Option Data → Option Data → ℕ → Result LayoutLists JsonFault
layout_in scripts features lookups =
    and_then (and_then (list_or_none scripts) (rows_by_key nat_cmp (λ s. s.tag.0) (script (count_of features)) None)) (λ ss.
    and_then (and_then (list_or_none features) (rows_in_turn (feature lookups))) (λ fs.
    Ok (record { scripts = ss; features = fs })))

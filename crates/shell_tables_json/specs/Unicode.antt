-- The values of the character tables' keys, from splits to Thai forms.
use Rattle.std.specs.Prelude.{codes, Result, Ok}
use Rattle.serde_json.specs.Data.{Data}
use Rattle.shell_json.specs.declared.fault.JsonFault.{JsonFault}
use Rattle.shell_json.specs.Cell.{and_then}
use Rattle.shell_json.specs.Objects.{of_object}
use Rattle.shell_tables_json.specs.Rows.{rows_at}
use Rattle.shell_tables_json.specs.Characters.{split_row, pair, character_class, counterpart, character_range, joining_row, indic_row, universal_row, thai_row}
use Rattle.buffer_unicode_tables.specs.Tables.{Tables}

-- the keys in the order of their faults
abbrev pub tables_keys : Data → Result Tables JsonFault
tables_keys d =
    and_then (rows_at (codes "splits") (λ _. 0) (λ r. r.whole) split_row d) (λ splits.
    and_then (rows_at (codes "pairs") (λ r. r.first) (λ r. r.second) pair d) (λ pairs.
    and_then (rows_at (codes "classes") (λ _. 0) (λ r. r.character) character_class d) (λ classes.
    and_then (rows_at (codes "mirrored") (λ _. 0) (λ r. r.character) counterpart d) (λ mirrored.
    and_then (rows_at (codes "vertical") (λ _. 0) (λ r. r.character) counterpart d) (λ vertical.
    and_then (rows_at (codes "pictographic") (λ _. 0) (λ r. r.first) character_range d) (λ pictographic.
    and_then (rows_at (codes "joining") (λ _. 0) (λ r. r.character) joining_row d) (λ joining.
    and_then (rows_at (codes "indic") (λ _. 0) (λ r. r.character) indic_row d) (λ indic.
    and_then (rows_at (codes "universal") (λ _. 0) (λ r. r.character) universal_row d) (λ universal.
    and_then (rows_at (codes "thai") (λ r. r.character) (λ r. r.action) thai_row d) (λ thai.
    Ok (record {
      splits = splits;
      pairs = pairs;
      classes = classes;
      mirrored = mirrored;
      vertical = vertical;
      pictographic = pictographic;
      joining = joining;
      indic = indic;
      universal = universal;
      thai = thai;
    })))))))))))

-- the tables of a JSON value, whatever the length of their chains of decompositions
abbrev pub tables_of : Data → Result Tables JsonFault
tables_of d = of_object tables_keys d

-- The tables of characters in binary form: sections 0 to 9.
use Rattle.std.specs.Prelude.{ℕ, ◌≡◌, List, map, Option, Some, None, Result, Ok, Err}
use Rattle.std.specs.List.{flat_map}
use Rattle.font_bytes.specs.Results.{and_then}
use Rattle.buffer_unicode.specs.Rows.{split_of_numbers, pair_of_numbers, character_class_of_numbers, counterpart_of_numbers, character_range_of_numbers, joining_row_of_numbers, indic_row_of_numbers, universal_row_of_numbers, thai_row_of_numbers}
use Rattle.buffer_unicode.specs.declared.fault.TablesFault.{TablesFault}
use Rattle.buffer_unicode_tables.specs.Expansion.{HasDeepChain}
use Rattle.buffer_unicode_tables.specs.Tables.{Tables, first_row_fault, split_of}
use Rattle.shell_tables_bytes.specs.declared.fault.BinaryFault.{BinaryFault}
use Rattle.shell_tables_bytes.specs.declared.fault.BinaryFault.TheVariants.{Rows}
use Rattle.shell_tables_bytes.specs.Records.{two_characters, three_characters, indic_record, thai_record, run_record, rows_of_run}
use Rattle.shell_tables_bytes.specs.Sections.{section}

-- the rows of the runs of a section
abbrev pub runs_in : ℕ → List ℕ → Result (List (List ℕ)) BinaryFault
runs_in number bytes = and_then (section run_record 6 number bytes) (λ runs. Ok (flat_map rows_of_run runs))

-- the rows of all sections
abbrev pub character_rows : List ℕ → Result Tables BinaryFault
character_rows bytes =
    and_then (section three_characters 9 0 bytes) (λ splits.
    and_then (section three_characters 9 1 bytes) (λ pairs.
    and_then (runs_in 2 bytes) (λ classes.
    and_then (section two_characters 6 3 bytes) (λ mirrored.
    and_then (section two_characters 6 4 bytes) (λ vertical.
    and_then (section two_characters 6 5 bytes) (λ pictographic.
    and_then (runs_in 6 bytes) (λ joining.
    and_then (section indic_record 5 7 bytes) (λ indic.
    and_then (runs_in 8 bytes) (λ universal.
    and_then (section thai_record 10 9 bytes) (λ thai.
    Ok (record {
      splits = map split_of_numbers splits;
      pairs = map pair_of_numbers pairs;
      classes = map character_class_of_numbers classes;
      mirrored = map counterpart_of_numbers mirrored;
      vertical = map counterpart_of_numbers vertical;
      pictographic = map character_range_of_numbers pictographic;
      joining = map joining_row_of_numbers joining;
      indic = map indic_row_of_numbers indic;
      universal = map universal_row_of_numbers universal;
      thai = map thai_row_of_numbers thai;
    })))))))))))

-- a value whose rows have no fault, else their fault
abbrev pub unless_fault : {A : Type 0} → Option TablesFault → A → Result A BinaryFault
unless_fault None a = Ok a
unless_fault (Some f) a = Err (Rows f)

-- the tables of characters, whatever the length of their chains of decompositions: the first fault of a row is the
-- result
abbrev pub characters_of : List ℕ → Result Tables BinaryFault
characters_of bytes = and_then (character_rows bytes) (λ t. unless_fault (first_row_fault t) t)

-- the tables of characters have a chain of first halves of more than eight decompositions
abbrev pub AreDeep : List ℕ → Type 0
AreDeep bytes = (t : Tables) × (characters_of bytes ≡ Ok t) × HasDeepChain (split_of t) 8

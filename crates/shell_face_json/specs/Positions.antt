-- The GPOS subtables other than those that attach marks; glyph numbers are below the limit.
use Rattle.std.specs.Prelude.{ℕ, if◌then◌else◌, is_some, List, codes, None, Result, Ok}
use Rattle.std.specs.declared.cmp.Ordering.{Ordering}
use Rattle.std.specs.Ordering.{nat_cmp, ordering_then}
use Rattle.serde_json.specs.Data.{Data, Items}
use Rattle.serde_json.specs.Find.{as_object}
use Rattle.shell_json.specs.declared.fault.JsonFault.{JsonFault}
use Rattle.shell_json.specs.Cell.{and_then, i16_value}
use Rattle.shell_json.specs.Items.{list_of}
use Rattle.shell_face_json.specs.Lists.{number_below, or_null, value_list, rows_at, rows_in_turn, count_at}
use Rattle.shell_face_json.specs.Row.{first_and_rest, no_more, only, row_of_two, row_of_four}
use Rattle.shell_face_json.specs.Sorted.{rows_by_key}
use Rattle.shell_face_json.specs.Lengths.{items_at, least_length}
use Rattle.shell_face_json.specs.Glyphs.{glyph_rows, coverage_at, classes_in}
use Rattle.layout_tables.specs.declared.value.Anchor.{Anchor}
use Rattle.layout_tables.specs.declared.value.ValueRecord.{ValueRecord}
use Rattle.layout_tables.specs.declared.single_pos.SinglePos.{SinglePos}
use Rattle.layout_tables.specs.declared.pair.PairValues.{PairValues}
use Rattle.layout_tables.specs.declared.pair.PairRow.{PairRow}
use Rattle.layout_tables.specs.declared.pair.Class1Record.{Class1Record}
use Rattle.layout_tables.specs.declared.pair.ClassPairs.{ClassPairs}
use Rattle.layout_tables.specs.declared.pair.PairPos.{PairPos}
use Rattle.layout_tables.specs.declared.pair.PairPos.TheVariants.{Glyphs, Classes}
use Rattle.layout_tables.specs.declared.cursive.EntryExit.{EntryExit}
use Rattle.layout_tables.specs.declared.cursive.CursivePos.{CursivePos}

-- an anchor: x and y
abbrev pub anchor : Data → Result Anchor JsonFault
anchor d = and_then (row_of_two i16_value i16_value d) (λ p. Ok (record { x = p.0; y = p.1.0 }))

-- a value record: x and y placement, x and y advance
abbrev pub value_record : Data → Result ValueRecord JsonFault
value_record d =
    and_then (row_of_four i16_value i16_value i16_value i16_value d) (λ p.
    Ok (record { x_placement = p.0; y_placement = p.1.0; x_advance = p.1.1.0; y_advance = p.1.1.1.0 }))

-- a single adjustment subtable: rows of a glyph and its value record (GPOS lookup type 1)
abbrev pub single_pos : Data → Result SinglePos JsonFault
single_pos d = and_then (and_then (list_of d) (glyph_rows (only value_record))) (λ rows. Ok (record { rows = rows }))

-- ---- pairs

-- two value records, the second of which may be null
abbrev pub pair_values : Data → Result PairValues JsonFault
pair_values d = and_then (row_of_two value_record (or_null value_record) d) (λ p. Ok (record { first = p.0; second = p.1.0 }))

-- two glyphs and their value records (GPOS lookup type 2, format 1)
abbrev pub pair_row : ℕ → Data → Result PairRow JsonFault
pair_row limit d =
    and_then (row_of_four (number_below limit) (number_below limit) value_record (or_null value_record) d) (λ p.
    Ok (record { first = p.0; second = p.1.0; values = record { first = p.1.1.0; second = p.1.1.1.0 } }))

-- the order of pairs: by the first glyph, then by the second
abbrev pub pair_order : ℕ × ℕ → ℕ × ℕ → Ordering
pair_order x y = ordering_then (nat_cmp x.0 y.0) (nat_cmp x.1 y.1)

-- pairs of glyphs, in rising order
abbrev pub pair_rows : ℕ → Items → Result (List PairRow) JsonFault
pair_rows limit ds = rows_by_key pair_order (λ r. (r.first, r.second)) (pair_row limit) None ds

-- the value records of a first class, by second classes
abbrev pub class1_record : Data → Result Class1Record JsonFault
class1_record d = and_then (value_list pair_values d) (λ rs. Ok (record { class2_records = rs }))

-- pairs by classes (GPOS lookup type 2, format 2): a first class has a row of records, a second class a record in each
-- row
abbrev pub class_pairs : ℕ → Data → Result ClassPairs JsonFault
class_pairs limit d =
    and_then (coverage_at limit (codes "first") d) (λ first.
    and_then (rows_at (codes "class1") (classes_in (count_at (codes "records") d)) d) (λ class1.
    and_then (rows_at (codes "class2") (classes_in (least_length limit (items_at (codes "records") d))) d) (λ class2.
    and_then (rows_at (codes "records") (rows_in_turn class1_record) d) (λ records.
    Ok (record { coverage = first; class_def1 = class1; class_def2 = class2; records = records })))))

-- a pair adjustment subtable: an object has pairs by classes, a list has pairs of glyphs
abbrev pub pair_pos : ℕ → Data → Result PairPos JsonFault
pair_pos limit d =
    if is_some (as_object d)
    then and_then (class_pairs limit d) (λ p. Ok (Classes p))
    else and_then (and_then (list_of d) (pair_rows limit)) (λ rows. Ok (Glyphs (record { rows = rows })))

-- ---- cursive attachment

-- an entry and an exit anchor, each of which may be null
abbrev pub entry_exit : Items → Result EntryExit JsonFault
entry_exit ds =
    and_then (first_and_rest (or_null anchor) (first_and_rest (or_null anchor) no_more) ds) (λ p. Ok (record { entry = p.0; exit = p.1.0 }))

-- a cursive attachment subtable: rows of a glyph, its entry and its exit (GPOS lookup type 3)
abbrev pub cursive_pos : Data → Result CursivePos JsonFault
cursive_pos d = and_then (and_then (list_of d) (glyph_rows entry_exit)) (λ rows. Ok (record { rows = rows }))

-- Pair adjustment subtables by classes (OpenType, GPOS lookup type 2, format 2), and both formats.
use Rattle.std.specs.Prelude.{ℕ, ◌+◌, ◌*◌, ◌==◌, nat_lt, Bool, if◌then◌else◌, List, [], filter, unwrap_or, length, Option, Some, None, Result, Ok}
use Rattle.font_bytes.specs.declared.fault.TableFault.{TableFault}
use Rattle.font_bytes.specs.Results.{and_then}
use Rattle.font_bytes.specs.Words.{need, word}
use Rattle.font_bytes.specs.Records.{records}
use Rattle.font_bytes.specs.Room.{room_after}
use Rattle.font_common.specs.ClassDefinition.{class_rows_at}
use Rattle.font_common.specs.Offsets.{value_at_offset}
use Rattle.font_common.specs.Coverage.{glyphs_in_room}
use Rattle.layout_common.specs.Coverage.{in_order}
use Rattle.layout_common.specs.Rows.{value_of}
use Rattle.layout_common.specs.declared.glyph_row.GlyphRow.{GlyphRow}
use Rattle.layout_tables.specs.declared.pair.Class1Record.{Class1Record}
use Rattle.layout_tables.specs.declared.pair.ClassPairs.{ClassPairs}
use Rattle.layout_tables.specs.declared.pair.PairPos.{PairPos}
use Rattle.layout_tables.specs.declared.pair.PairPos.TheVariants.{Glyphs, Classes}
use Rattle.font_positioning.specs.Pairs.{pair_values, pair_size, glyph_pairs}
use Rattle.font_records.specs.Turns.{some_value}

-- the rows of the class definition table at an offset from the subtable's start; a null offset has none
abbrev pub class_rows : ℕ → List ℕ → ℕ → ℕ → Result (List (GlyphRow ℕ) × ℕ) TableFault
class_rows room table start offset = value_at_offset [] class_rows_at room table start offset

-- the rows whose class has records
abbrev pub rows_below : ℕ → List (GlyphRow ℕ) → List (GlyphRow ℕ)
rows_below count rows = filter (λ r. nat_lt r.value count) rows

-- whether a glyph's class has records
abbrev pub has_records : List (GlyphRow ℕ) → ℕ → ℕ → Bool
has_records rows count glyph = nat_lt (unwrap_or (value_of glyph rows) 0) count

-- Class2Records: the value records of n second classes
abbrev pub class2_records : ℕ → ℕ → List ℕ → ℕ → ℕ → Class1Record
class2_records format1 format2 table count at =
    record { class2_records = records (pair_values format1 format2 table) (pair_size format1 format2) at count }

-- Class1Records: the records of n first classes
abbrev pub class1_records : ℕ → ℕ → List ℕ → ℕ → ℕ → ℕ → List Class1Record
class1_records format1 format2 table count1 count2 at =
    records (class2_records format1 format2 table count2) (pair_size format1 format2 * count2) at count1

-- a subtable of a coverage, of classes that have records, and of these
abbrev pub classes_of : List ℕ → List (GlyphRow ℕ) → List (GlyphRow ℕ) → ℕ → ℕ → List Class1Record → ClassPairs
classes_of glyphs rows1 rows2 count1 count2 records = record {
  coverage = in_order (filter (has_records rows1 count1) glyphs);
  class_def1 = record { rows = rows_below count1 rows1 };
  class_def2 = record { rows = rows_below count2 rows2 };
  records = records;
}

-- format 2: coverageOffset at 2, valueFormat1 at 4, valueFormat2 at 6, classDef1Offset at 8, classDef2Offset at 10,
-- class1Count at 12, class2Count at 14, class1Records at 16. First glyphs whose class has no records aren't covered; second
-- ones have class 0. A Class1Record takes a row of room, and each of its Class2Records
abbrev pub class_pairs : ℕ → List ℕ → ℕ → Result (ClassPairs × ℕ) TableFault
class_pairs room table at = and_then (need table at 16) (λ _.
    and_then (need table (at + 16) (pair_size (word table (at + 4)) (word table (at + 6)) * word table (at + 14) * word table (at + 12))) (λ _.
    and_then (room_after room (word table (at + 12) * (word table (at + 14) + 1))) (λ left.
    and_then (glyphs_in_room left table at (word table (at + 2))) (λ c.
    and_then (class_rows c.1 table at (word table (at + 8))) (λ one.
    and_then (class_rows one.1 table at (word table (at + 10))) (λ two.
    Ok (
      classes_of c.0 one.0 two.0 (word table (at + 12)) (word table (at + 14))
          (class1_records (word table (at + 4)) (word table (at + 6)) table (word table (at + 12)) (word table (at + 14)) (at + 16)),
      two.1,
    )))))))

-- ---- both formats

-- a subtable by its format; one of an unknown format is left out
abbrev pub pair_of_format : ℕ → ℕ → List ℕ → ℕ → Result (Option PairPos × ℕ) TableFault
pair_of_format format room table at =
    if format == 1 then some_value (λ rows. Glyphs (record { rows = rows })) (glyph_pairs room table at)
    else (if format == 2 then some_value (λ pairs. Classes pairs) (class_pairs room table at) else Ok (None, room))

-- the pair adjustment subtable at an offset
abbrev pub pair_pos_at : ℕ → List ℕ → ℕ → Result (Option PairPos × ℕ) TableFault
pair_pos_at room table at = and_then (need table at 2) (λ _. pair_of_format (word table at) room table at)

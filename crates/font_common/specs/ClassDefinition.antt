-- Class definition tables (OpenType, chapter 2, class definition table).
use Rattle.std.specs.Prelude.{ℕ, zero, suc, ◌+◌, ◌-◌, ◌*◌, ◌==◌, ◌&&◌, min, nat_le, Bool, true, if◌then◌else◌, List, [], ◌∷◌, ◌++◌, length, None, Result, Ok, Err}
use Rattle.std.specs.List.{flat_map}
use Rattle.std.specs.Ordering.{nat_cmp}
use Rattle.font_bytes.specs.declared.fault.TableFault.{TableFault}
use Rattle.font_bytes.specs.declared.fault.TableFault.TheVariants.{Order}
use Rattle.font_bytes.specs.Results.{and_then}
use Rattle.font_bytes.specs.Words.{need, word}
use Rattle.font_bytes.specs.Records.{records}
use Rattle.font_bytes.specs.Room.{room_after}
use Rattle.layout_common.specs.declared.class_definition.ClassDefinition.{ClassDefinition}
use Rattle.layout_common.specs.declared.glyph_row.GlyphRow.{GlyphRow}
use Rattle.font_common.specs.declared.class_definition.ClassRangeRecord.{ClassRangeRecord}
use Rattle.font_common.specs.Coverage.{has_glyphs, least_after}
use Rattle.font_common.specs.Rows.{first_rows}

-- the row of a glyph with its class, none for class 0, which a glyph without a row has
abbrev pub class_row : ℕ → ℕ → List (GlyphRow ℕ)
class_row glyph class = if class == 0 then [] else record { glyph = glyph; value = class } ∷ []

-- ---- format 1

-- the rows of glyphs from one on with their classes
abbrev pub listed_rows : ℕ → List ℕ → List (GlyphRow ℕ)
listed_rows glyph [] = []
listed_rows glyph (class ∷ classes) = class_row glyph class ++ listed_rows (glyph + 1) classes

-- how many of n glyphs from one on are glyphs: those up to 65,535
abbrev pub glyph_count : ℕ → ℕ → ℕ
glyph_count first count = min count (65536 - first)

-- classValueArray: the classes of n glyphs
abbrev pub class_array : List ℕ → ℕ → ℕ → List ℕ
class_array table at count = records (word table) 2 at count

-- format 1: startGlyphID at 2, glyphCount at 4, classValueArray at 6; each class takes a row of room
abbrev pub listed_classes : ℕ → List ℕ → ℕ → Result (List (GlyphRow ℕ) × ℕ) TableFault
listed_classes room table at = and_then (need table at 6) (λ _. and_then (need table (at + 6) (2 * word table (at + 4)))
    (λ _. and_then (room_after room (word table (at + 4))) (λ left.
    Ok (listed_rows (word table (at + 2)) (class_array table (at + 6) (glyph_count (word table (at + 2)) (word table (at + 4)))), left))))

-- ---- format 2

-- ClassRangeRecord: startGlyphID at 0, endGlyphID at 2, class at 4
abbrev pub class_range_record : List ℕ → ℕ → ClassRangeRecord
class_range_record table at = record { first = word table at; last = word table (at + 2); class = word table (at + 4) }

-- the rows of n glyphs from one on, of one class
abbrev pub class_run : ℕ → ℕ → ℕ → List (GlyphRow ℕ)
class_run class first zero = []
class_run class first (suc count) = record { glyph = first; value = class } ∷ class_run class (first + 1) count

-- the rows of a range, none for class 0
abbrev pub class_rows_of : ClassRangeRecord → List (GlyphRow ℕ)
class_rows_of r = if r.class == 0 then [] else class_run r.class r.first (r.last + 1 - r.first)

-- whether a range may follow: it has no glyphs, or none below a least one
abbrev pub is_next_range : ℕ → ClassRangeRecord → Bool
is_next_range least r = if has_glyphs r.first r.last then nat_le least r.first else true

-- whether ranges with glyphs never fall: the specification wants them to rise, and the last glyph of one may be the first of
-- the next
abbrev pub are_class_ranges : ℕ → List ClassRangeRecord → Bool
are_class_ranges least [] = true
are_class_ranges least (r ∷ rs) = is_next_range least r && are_class_ranges (least_after least r.first r.last) rs

-- classRangeRecords: classRangeCount records from an offset on
abbrev pub class_range_array : List ℕ → ℕ → ℕ → List ClassRangeRecord
class_range_array table at count = records (class_range_record table) 6 at count

-- the rows of ranges of the table at an offset
abbrev pub rows_in_ranges : ℕ → List ClassRangeRecord → Result (List (GlyphRow ℕ)) TableFault
rows_in_ranges at rs = if are_class_ranges 0 rs then Ok (flat_map class_rows_of rs) else Err (Order at)

-- rows in the room that they leave
abbrev pub rows_in_room : ℕ → List (GlyphRow ℕ) → Result (List (GlyphRow ℕ) × ℕ) TableFault
rows_in_room room rows = and_then (room_after room (length rows)) (λ left. Ok (rows, left))

-- format 2: classRangeCount at 2, classRangeRecords at 4; each range takes a row of room, and each glyph of a range whose
-- class isn't 0
abbrev pub range_classes : ℕ → List ℕ → ℕ → Result (List (GlyphRow ℕ) × ℕ) TableFault
range_classes room table at = and_then (need table (at + 4) (6 * word table (at + 2))) (λ _. and_then (room_after room (word table (at + 2)))
    (λ left. and_then (rows_in_ranges at (class_range_array table (at + 4) (word table (at + 2)))) (rows_in_room left)))

-- ---- both

-- the rows of a class definition table, by its format at 0; none of an unknown format
abbrev pub classes_of_format : ℕ → List ℕ → ℕ → ℕ → Result (List (GlyphRow ℕ) × ℕ) TableFault
classes_of_format room table at format =
    if format == 1 then listed_classes room table at else (if format == 2 then range_classes room table at else Ok ([], room))

-- the rows of the class definition table at an offset, in its order, and the room that it leaves
abbrev pub all_class_rows : ℕ → List ℕ → ℕ → Result (List (GlyphRow ℕ) × ℕ) TableFault
all_class_rows room table at = and_then (need table at 4) (λ _. classes_of_format room table at (word table at))

-- of these rows the first of each glyph: one that two ranges have has the class of the first
abbrev pub class_rows_at : ℕ → List ℕ → ℕ → Result (List (GlyphRow ℕ) × ℕ) TableFault
class_rows_at room table at = and_then (all_class_rows room table at) (λ r. Ok (first_rows nat_cmp (λ row. row.glyph) None r.0, r.1))

-- the classes of the class definition table at an offset, and the room that it leaves
abbrev pub class_definition_at : ℕ → List ℕ → ℕ → Result (ClassDefinition × ℕ) TableFault
class_definition_at room table at = and_then (class_rows_at room table at) (λ r. Ok (record { rows = r.0 }, r.1))

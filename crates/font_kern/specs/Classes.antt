-- Classes of glyphs and their distances (OpenType, chapter kern, format 2).
use Rattle.std.specs.Prelude.{ℕ, zero, suc, ℤ, pos, ◌+◌, ◌-◌, ◌*◌, ◌/◌, ◌==◌, ◌&&◌, ◌||◌, nat_le, nat_lt, min, Bool, true, false, if◌then◌else◌, List, [], ◌∷◌, map, Option, None, Result, Ok, Err}
use Rattle.std.specs.List.{flat_map}
use Rattle.std.specs.Ordering.{nat_cmp}
use Rattle.font_bytes.specs.declared.fault.TableFault.{TableFault}
use Rattle.font_bytes.specs.Results.{and_then}
use Rattle.font_bytes.specs.Room.{room_after}
use Rattle.font_bytes.specs.Words.{fits, need, word, signed_word}
use Rattle.font_bytes.specs.Records.{records}
use Rattle.layout_common.specs.declared.glyph_row.GlyphRow.{GlyphRow}
use Rattle.layout_common.specs.Coverage.{in_order}
use Rattle.layout_tables.specs.Fits.{class_count}
use Rattle.layout_tables.specs.declared.pair.ClassPairs.{ClassPairs}
use Rattle.layout_tables.specs.declared.pair.Class1Record.{Class1Record}
use Rattle.layout_tables.specs.declared.pair.PairPos.TheVariants.{Classes}
use Rattle.font_kern.specs.declared.kerning.Kerning.{Kerning}
use Rattle.font_kern.specs.declared.classes.ClassHeader.{ClassHeader}
use Rattle.font_common.specs.Rows.{first_rows}
use Rattle.font_kern.specs.Pairs.{kern_values}

-- rowWidth at 0 of what follows the header, then offsets from the subtable's start: leftClassTable, rightClassTable, array
abbrev pub class_header : List ℕ → ℕ → ℕ → ClassHeader
class_header table start at = record {
  width = word table at;
  left_at = start + word table (at + 2);
  right_at = start + word table (at + 4);
  array = word table (at + 6);
  array_at = start + word table (at + 6);
}

-- ---- lists of classes

-- the values of glyphs from one on
unfoldable pub listed_values : List ℕ → ℕ → ℕ → ℕ → List (GlyphRow ℕ)
listed_values table at glyph zero = []
listed_values table at glyph (suc count) = record { glyph = glyph; value = word table at } ∷ listed_values table (at + 2) (glyph + 1) count

-- how many of n glyphs from one on there are
abbrev pub glyphs_from : ℕ → ℕ → ℕ
glyphs_from first count = min count (65536 - first)

-- a class table: firstGlyph at 0, nGlyphs at 2, from 4 on a value for each glyph; each takes a row of room
abbrev pub class_list : ℕ → List ℕ → ℕ → Result (List (GlyphRow ℕ) × ℕ) TableFault
class_list room table at = and_then (need table at 4) (λ _. and_then (room_after room (word table (at + 2))) (λ left. and_then (need table (at + 4) (2 * word table (at + 2)))
    (λ _. Ok (listed_values table (at + 4) (word table at) (glyphs_from (word table at) (word table (at + 2))), left))))

-- a left glyph's value is the offset of its row in the array, from the subtable's start: its class is the row
abbrev pub left_class : ClassHeader → GlyphRow ℕ → List (GlyphRow ℕ)
left_class h r =
    if nat_le h.array r.value && nat_lt 0 h.width then record { glyph = r.glyph; value = (r.value - h.array) / h.width } ∷ [] else []

-- a right glyph's value is the offset of its column in a row: its class is the column. Glyphs without a column are in column 0
abbrev pub right_class : ClassHeader → GlyphRow ℕ → List (GlyphRow ℕ)
right_class h r = if nat_lt (r.value / 2) (h.width / 2) then record { glyph = r.glyph; value = r.value / 2 } ∷ [] else []

-- the classes of left glyphs
abbrev pub left_classes : ClassHeader → List (GlyphRow ℕ) → List (GlyphRow ℕ)
left_classes h rows = first_rows nat_cmp (λ r. r.glyph) None (flat_map (left_class h) rows)

-- the classes of right glyphs
abbrev pub right_classes : ClassHeader → List (GlyphRow ℕ) → List (GlyphRow ℕ)
right_classes h rows = first_rows nat_cmp (λ r. r.glyph) None (flat_map (right_class h) rows)

-- ---- the array

-- the distance at an offset, 0 past the table's end
abbrev pub distance_at : List ℕ → ℕ → ℤ
distance_at table at = if fits table at 2 then signed_word table at else pos 0

-- a row of records: for each step of a width that of the distance there
abbrev pub class_record : Bool → List ℕ → ℕ → ℕ → ℕ → Class1Record
class_record is_backward table inner inner_count at = record { class2_records = records (λ o. kern_values is_backward (distance_at table o)) inner at inner_count }

-- the records of an array of distances: for each step of the outer width one row, with a record for each step of the inner one
abbrev pub class_records : Bool → List ℕ → ℕ → ℕ → ℕ → ℕ → ℕ → List Class1Record
class_records is_backward table at outer outer_count inner inner_count =
    records (λ o. class_record is_backward table inner inner_count o) outer at outer_count

-- ---- format 2

-- the room that the records of classes take
abbrev pub room_of_classes : ℕ → ℕ → ℕ
room_of_classes rows columns = (rows + 1) * (columns + 1)

-- pairs of classes: the glyphs that come first, the classes of both glyphs, their records
abbrev pub class_pairs : List ℕ → List (GlyphRow ℕ) → List (GlyphRow ℕ) → List Class1Record → ClassPairs
class_pairs firsts class1 class2 rs = record { coverage = in_order firsts; class_def1 = record { rows = class1 }; class_def2 = record { rows = class2 }; records = rs }

-- what pairs of classes do
abbrev pub class_kerning : ClassPairs → Kerning
class_kerning c = record { firsts = c.coverage; pairs = Classes c }

-- classes in a text from left to right: a row of the array for each class of left glyphs
abbrev pub forward_kerning : List ℕ → ClassHeader → List (GlyphRow ℕ) → List (GlyphRow ℕ) → Kerning
forward_kerning table h lefts rights = class_kerning (class_pairs (map (λ r. r.glyph) lefts) lefts rights
    (class_records false table h.array_at h.width (class_count 0 lefts) 2 (h.width / 2)))

-- classes in a text from right to left, where the right glyph comes first: a column for each class of right glyphs, of which all
-- glyphs have one
abbrev pub backward_kerning : List ℕ → ClassHeader → List (GlyphRow ℕ) → List (GlyphRow ℕ) → Kerning
backward_kerning table h lefts rights = class_kerning (class_pairs (records (λ g. g) 1 0 65536) rights lefts
    (class_records true table h.array_at 2 (h.width / 2) h.width (class_count 0 lefts)))

-- the pairs of classes in the room that their records take, and all glyphs where those are first glyphs
abbrev pub kerning_of_classes : Bool → ℕ → List ℕ → ClassHeader → List (GlyphRow ℕ) → List (GlyphRow ℕ) → Result (Kerning × ℕ) TableFault
kerning_of_classes is_backward room table h lefts rights =
    and_then (room_after room (room_of_classes (class_count 0 lefts) (h.width / 2))) (λ left.
    if is_backward then and_then (room_after left 65536) (λ last. Ok (backward_kerning table h lefts rights, last))
    else Ok (forward_kerning table h lefts rights, left))

-- format 2: the header at an offset of a subtable, the lists of classes, the array
abbrev pub classes_at : Bool → ℕ → List ℕ → ℕ → ℕ → Result (Kerning × ℕ) TableFault
classes_at is_backward room table start at = and_then (need table at 8) (λ _.
    and_then (class_list room table (class_header table start at).left_at) (λ l. and_then (class_list l.1 table (class_header table start at).right_at) (λ r.
    kerning_of_classes is_backward r.1 table (class_header table start at) (left_classes (class_header table start at) l.0) (right_classes (class_header table start at) r.0))))

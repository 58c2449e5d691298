-- Coverages and class definitions fit the room that they take.
use Rattle.std.proofs.Common.{◌≡◌, ℕ, ◌+◌, ◌*◌, ◌≤◌, ◌==◌, Bool, true, false, if◌then◌else◌, List, [], ◌∷◌, length, None, arith}
use Rattle.std.specs.Ordering.{nat_cmp}
use Rattle.std.proofs.Math.ListN.{length-append}
use Rattle.font_bytes.specs.Room.{room_after}
use Rattle.font_bytes.specs.Words.{need, word}
use Rattle.layout_common.specs.declared.glyph_row.GlyphRow.{GlyphRow}
use Rattle.font_common.specs.Coverage.{glyphs_at, glyphs_at_offset, glyphs_in_room, coverage_at}
use Rattle.font_common.specs.ClassDefinition.{class_row, listed_rows, class_array, glyph_count, listed_classes, class_range_array, rows_in_ranges, range_classes, classes_of_format, all_class_rows, class_rows_at, class_definition_at}
use Rattle.font_laws.specs.Lists.{class_row_count}
use Rattle.font_laws.proofs.Within.{Fitting, then_if, then_any, if_either, room_taken}
use Rattle.font_laws.proofs.Totals.{key_order_length, first_rows_length, records_length}

-- ---- coverages

pub glyphs_fit : (room : ℕ) (table : List ℕ) (base offset : ℕ) → Fitting length room (glyphs_in_room room table base offset)
glyphs_fit room table base offset =
    then_any _ (glyphs_at_offset table base offset) _ (λ gs.
    then_if (λ left. length gs + left ≡ room) _ (room_after room (length gs)) _ (room_taken room (length gs)) (λ left e. omega arith))

pub coverage_fits : (room : ℕ) (table : List ℕ) (at : ℕ) → Fitting length room (coverage_at room table at)
coverage_fits room table at =
    then_any _ (glyphs_at table at) _ (λ gs.
    then_if (λ left. length gs + left ≡ room) _ (room_after room (length gs)) _ (room_taken room (length gs)) (λ left e.
    let few = key_order_length (λ (g : ℕ). g) gs in omega arith))

-- ---- class definitions

abbrev row_unless : ℕ → ℕ → Bool → List (GlyphRow ℕ)
row_unless glyph class t = if t then [] else record { glyph = glyph; value = class } ∷ []

class_row_length : (glyph class : ℕ) (t : Bool) → length (row_unless glyph class t) ≤ 1
class_row_length glyph class true = omega arith
class_row_length glyph class false = omega arith

listed_length : (glyph : ℕ) (classes : List ℕ) → length (listed_rows glyph classes) ≤ length classes
listed_length glyph [] = omega arith
listed_length glyph (class ∷ classes) =
    let one = class_row_length glyph class (class == 0) in
    let rest = listed_length (glyph + 1) classes in
    let split = length-append (class_row glyph class) (listed_rows (glyph + 1) classes) in
    omega arith

listed_fit : (room : ℕ) (table : List ℕ) (at : ℕ) → Fitting length room (listed_classes room table at)
listed_fit room table at =
    then_any _ (need table at 6) _ (λ _. then_any _ (need table (at + 6) (2 * word table (at + 4))) _ (λ _.
    then_if (λ left. word table (at + 4) + left ≡ room) _ (room_after room (word table (at + 4))) _ (room_taken room (word table (at + 4))) (λ left e.
    let few = listed_length (word table (at + 2)) (class_array table (at + 6) (glyph_count (word table (at + 2)) (word table (at + 4)))) in
    let as_many = records_length (word table) 2 (at + 6) (glyph_count (word table (at + 2)) (word table (at + 4))) in
    omega arith)))

ranges_fit : (room : ℕ) (table : List ℕ) (at : ℕ) → Fitting length room (range_classes room table at)
ranges_fit room table at =
    then_any _ (need table (at + 4) (6 * word table (at + 2))) _ (λ _.
    then_if (λ left. word table (at + 2) + left ≡ room) _ (room_after room (word table (at + 2))) _ (room_taken room (word table (at + 2))) (λ left e.
    then_any _ (rows_in_ranges at (class_range_array table (at + 4) (word table (at + 2)))) _ (λ rows.
    then_if (λ last. length rows + last ≡ left) _ (room_after left (length rows)) _ (room_taken left (length rows)) (λ last k. omega arith))))

formats_fit : (room : ℕ) (table : List ℕ) (at format : ℕ) → Fitting length room (classes_of_format room table at format)
formats_fit room table at format =
    if_either _ (format == 1) (listed_classes room table at) _ (listed_fit room table at)
    (if_either _ (format == 2) (range_classes room table at) _ (ranges_fit room table at) (omega arith))

pub class_rows_fit : (room : ℕ) (table : List ℕ) (at : ℕ) → Fitting length room (class_rows_at room table at)
class_rows_fit room table at =
    then_if (λ r. length r.0 + r.1 ≤ room) _ (all_class_rows room table at) _
    (then_any _ (need table at 4) _ (λ _. formats_fit room table at (word table at))) (λ r h.
    let few = first_rows_length nat_cmp (λ row. row.glyph) None r.0 in omega arith)

pub classes_fit : (room : ℕ) (table : List ℕ) (at : ℕ) → Fitting class_row_count room (class_definition_at room table at)
classes_fit room table at = then_if (λ r. length r.0 + r.1 ≤ room) _ (class_rows_at room table at) _ (class_rows_fit room table at) (λ r h. h)

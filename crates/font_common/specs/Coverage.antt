-- Coverage tables (OpenType, chapter 2, coverage table).
use Rattle.std.specs.Prelude.{ℕ, zero, suc, ◌+◌, ◌-◌, ◌*◌, ◌==◌, ◌&&◌, nat_le, Bool, true, if◌then◌else◌, List, [], ◌∷◌, length, Result, Ok, Err}
use Rattle.std.specs.List.{flat_map}
use Rattle.font_bytes.specs.declared.fault.TableFault.{TableFault}
use Rattle.font_bytes.specs.declared.fault.TableFault.TheVariants.{Order}
use Rattle.font_bytes.specs.Results.{and_then}
use Rattle.font_bytes.specs.Words.{need, word}
use Rattle.font_bytes.specs.Records.{records}
use Rattle.font_bytes.specs.Room.{room_after}
use Rattle.layout_common.specs.Coverage.{in_order}
use Rattle.font_common.specs.declared.coverage.RangeRecord.{RangeRecord}

-- ---- format 1

-- whether no number is below the one before it, nor the first below a least one: the specification wants them to rise, and
-- fonts repeat glyphs
abbrev pub never_fall : ℕ → List ℕ → Bool
never_fall least [] = true
never_fall least (g ∷ gs) = nat_le least g && never_fall g gs

-- glyphArray: glyphCount glyphs from an offset on
abbrev pub glyph_array : List ℕ → ℕ → ℕ → List ℕ
glyph_array table at count = records (word table) 2 at count

-- format 1: glyphCount at 2, glyphArray at 4; glyphs never fall
abbrev pub listed_glyphs : List ℕ → ℕ → Result (List ℕ) TableFault
listed_glyphs table at = and_then (need table (at + 4) (2 * word table (at + 2)))
    (λ _. if never_fall 0 (glyph_array table (at + 4) (word table (at + 2))) then Ok (glyph_array table (at + 4) (word table (at + 2))) else Err (Order at))

-- ---- format 2

-- RangeRecord: startGlyphID at 0, endGlyphID at 2, startCoverageIndex at 4
abbrev pub range_record : List ℕ → ℕ → RangeRecord
range_record table at = record { first = word table at; last = word table (at + 2); start_index = word table (at + 4) }

-- n glyphs from one on
abbrev pub glyph_run : ℕ → ℕ → List ℕ
glyph_run first zero = []
glyph_run first (suc count) = first ∷ glyph_run (first + 1) count

-- whether a range from a first glyph to a last one has glyphs: one that ends before it begins has none
abbrev pub has_glyphs : ℕ → ℕ → Bool
has_glyphs first last = nat_le first last

-- the least glyph that the range after one may begin with, by the least of that one: its last glyph, if it has glyphs
abbrev pub least_after : ℕ → ℕ → ℕ → ℕ
least_after least first last = if has_glyphs first last then last else least

-- how many glyphs a range has
abbrev pub range_length : RangeRecord → ℕ
range_length r = r.last + 1 - r.first

-- the glyphs of a range
abbrev pub run_of : RangeRecord → List ℕ
run_of r = glyph_run r.first (range_length r)

-- whether a range may follow: it has no glyphs, or none below a least one, and its start index is the number of those before
abbrev pub is_next : ℕ → ℕ → RangeRecord → Bool
is_next least index r = if has_glyphs r.first r.last then nat_le least r.first && r.start_index == index else true

-- whether ranges with glyphs never fall, and each has as its start index the number of the glyphs before it
abbrev pub are_ranges : ℕ → ℕ → List RangeRecord → Bool
are_ranges least index [] = true
are_ranges least index (r ∷ rs) = is_next least index r && are_ranges (least_after least r.first r.last) (index + range_length r) rs

-- rangeRecords: rangeCount records from an offset on
abbrev pub range_array : List ℕ → ℕ → ℕ → List RangeRecord
range_array table at count = records (range_record table) 6 at count

-- format 2: rangeCount at 2, rangeRecords at 4
abbrev pub range_glyphs : List ℕ → ℕ → Result (List ℕ) TableFault
range_glyphs table at = and_then (need table (at + 4) (6 * word table (at + 2)))
    (λ _. if are_ranges 0 0 (range_array table (at + 4) (word table (at + 2))) then Ok (flat_map run_of (range_array table (at + 4) (word table (at + 2)))) else Err (Order at))

-- ---- both

-- the glyphs of a coverage table, by its format at 0; none of an unknown format
abbrev pub glyphs_of_format : List ℕ → ℕ → ℕ → Result (List ℕ) TableFault
glyphs_of_format table at format = if format == 1 then listed_glyphs table at else (if format == 2 then range_glyphs table at else Ok [])

-- the glyphs of the coverage table at an offset
abbrev pub glyphs_at : List ℕ → ℕ → Result (List ℕ) TableFault
glyphs_at table at = and_then (need table at 4) (λ _. glyphs_of_format table at (word table at))

-- the glyphs of the coverage table at an offset from a base, none where the offset is null
abbrev pub glyphs_at_offset : List ℕ → ℕ → ℕ → Result (List ℕ) TableFault
glyphs_at_offset table base offset = if offset == 0 then Ok [] else glyphs_at table (base + offset)

-- the glyphs of the coverage table at an offset from a base, and the room that they leave
abbrev pub glyphs_in_room : ℕ → List ℕ → ℕ → ℕ → Result (List ℕ × ℕ) TableFault
glyphs_in_room room table base offset = and_then (glyphs_at_offset table base offset) (λ gs. and_then (room_after room (length gs)) (λ left. Ok (gs, left)))

-- the set of glyphs of the coverage table at an offset, and the room that its glyphs leave
abbrev pub coverage_at : ℕ → List ℕ → ℕ → Result (List ℕ × ℕ) TableFault
coverage_at room table at = and_then (glyphs_at table at) (λ gs. and_then (room_after room (length gs)) (λ left. Ok (in_order gs, left)))

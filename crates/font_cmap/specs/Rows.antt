-- The rows of characters by the ranges of a subtable.
use Rattle.std.specs.Prelude.{ℕ, zero, suc, ◌+◌, ◌-◌, ◌*◌, ◌==◌, ◌&&◌, ◌||◌, ◌<◌, ◌≤◌, nat_le, nat_lt, min, max, Bool, if◌then◌else◌, List, [], ◌∷◌, ◌++◌, Option, Some, None}
use Rattle.layout_face.specs.declared.parts.CharacterRow.{CharacterRow}
use Rattle.font_bytes.specs.Records.{records}
use Rattle.font_cmap.specs.declared.ranges.CharacterRange.{CharacterRange}
use Rattle.font_cmap.specs.declared.ranges.RangeArray.{RangeArray}
use Rattle.font_cmap.specs.Ranges.{glyph_in, range_at, form_width, bytes_needed}

-- ---- the rule

-- whether a number is a character: a Unicode scalar value
abbrev pub is_character : ℕ → Bool
is_character c = nat_lt c 0xD800 || (nat_le 0xE000 c && nat_le c 0x10FFFF)

-- the glyph of a character by ranges, 0 for none: the first range that doesn't end before the character gives it, if it
-- begins at or before it
abbrev pub glyph_among : List ℕ → List CharacterRange → ℕ → ℕ
glyph_among table [] c = 0
glyph_among table (r ∷ rs) c = if nat_lt c r.end then (if nat_le r.first c then glyph_in table r c else 0) else glyph_among table rs c

-- the glyph of a row, 0 for none
abbrev pub glyph_of_row : Option CharacterRow → ℕ
glyph_of_row None = 0
glyph_of_row (Some r) = r.glyph

-- ---- rows

-- the row of a number, none where it is no character or its glyph is 0
unfoldable pub character_row : ℕ → ℕ → List CharacterRow
character_row c g = if g == 0 then [] else (if is_character c then record { character = c; glyph = g } ∷ [] else [])

-- the rows of n numbers from one on
unfoldable pub rows_in : (ℕ → ℕ) → ℕ → ℕ → List CharacterRow
rows_in glyph c zero = []
rows_in glyph c (suc count) = character_row c (glyph c) ++ rows_in glyph (c + 1) count

-- how many characters of a range, of those up to U+10FFFF, aren't below a least one
unfoldable pub range_count : ℕ → CharacterRange → ℕ
range_count least r = min r.end 1114112 - max least r.first

-- the rows of ranges: of each its characters that aren't below the ends of those before it
abbrev pub rows_of : List ℕ → ℕ → List CharacterRange → List CharacterRow
rows_of table least [] = []
rows_of table least (r ∷ rs) = rows_in (glyph_in table r) (max least r.first) (range_count least r) ++ rows_of table (max least r.end) rs

-- how many characters these are
abbrev pub count_of : ℕ → List CharacterRange → ℕ
count_of least [] = 0
count_of least (r ∷ rs) = range_count least r + count_of (max least r.end) rs

-- ---- arrays of ranges

-- the ranges of a subtable
unfoldable pub ranges_of : List ℕ → RangeArray → List CharacterRange
ranges_of table a = records (range_at table a.form) (form_width a.form) a.at a.count

-- each range of an array is within a table of a length
abbrev pub IsArray : ℕ → RangeArray → Type 0
IsArray size a = (i : ℕ) → i < a.count → a.at + form_width a.form * i + bytes_needed a.form ≤ size

-- The rows of numbers, of ranges and of encodings have rising characters.
use Rattle.std.proofs.Common.{◌≡◌, ℕ, zero, suc, ◌+◌, ◌-◌, ◌<◌, ◌≤◌, ◌==◌, inl, inr, true, min, max, Option, Some, None, List, [], ◌∷◌, ◌++◌, refl, append_assoc, arith}
use Rattle.std.specs.List.{flat_map}
use Rattle.std.specs.Ordering.{nat_cmp}
use Rattle.std.proofs.lemmas.Bool.{cases_Bool, cases_lt, and_parts}
use Rattle.std.proofs.lemmas.Bool.Decides.{nat_tests}
use Rattle.buffer_rows.specs.Keys.{is_above, is_rising, numbers_rise}
use Rattle.layout_face.specs.declared.parts.CharacterRow.{CharacterRow}
use Rattle.font_cmap.specs.declared.ranges.CharacterRange.{CharacterRange}
use Rattle.font_cmap.specs.declared.ranges.RangeArray.{RangeArray}
use Rattle.font_cmap.specs.Roman.{upper_codes}
use Rattle.font_cmap.specs.Ranges.{glyph_in}
use Rattle.font_cmap.specs.Rows.{is_character, character_row, rows_in, range_count, rows_of, ranges_of}
use Rattle.font_cmap.specs.Encoded.{row_glyph, symbol_glyph, symbol_rows, roman_row, roman_rows}

abbrev pub character_of : CharacterRow → ℕ
character_of r = r.character

abbrev pub rises_after : Option ℕ → List CharacterRow → Type 0
rises_after before rows = is_rising nat_cmp character_of before rows ≡ true

abbrev above : Option ℕ → ℕ → Type 0
above before c = is_above nat_cmp before c ≡ true

above_more : (before : Option ℕ) (c d : ℕ) → c ≤ d → above before c → above before d
above_more None c d more h = refl
above_more (Some b) c d more h = grind (arith, nat_tests)

above_next : (c d : ℕ) → c < d → above (Some c) d
above_next c d h = grind (arith, nat_tests)

-- a row before rows
row_rises : (before : Option ℕ) (c g : ℕ) (rest : List CharacterRow) → above before c → rises_after before rest → rises_after (Some c) rest → rises_after before (character_row c g ++ rest)
unfolding character_row
row_rises before c g rest up skipped taken =
    elim (cases_Bool (g == 0)) [
      | inl none ↦ rw none skipped
      | inr some ↦ elim (cases_Bool (is_character c)) [
        | inl is ↦ rw (some, is, up, taken) refl
        | inr other ↦ rw (some, other) skipped
      ]
    ]

-- the rows of numbers before rows of characters after them
numbers_before : (glyph : ℕ → ℕ) (first count : ℕ) (rest : List CharacterRow) (before : Option ℕ)
    → ((b : Option ℕ) → above b (first + count) → rises_after b rest) → above before first → rises_after before (rows_in glyph first count ++ rest)
unfolding rows_in
numbers_before glyph first zero rest before after up = after before (above_more before first (first + 0) (omega arith) up)
numbers_before glyph first (suc count) rest before after up =
    let later : (b : Option ℕ) → above b (first + 1 + count) → rises_after b rest = λ b h. after b (above_more b (first + 1 + count) (first + suc count) (omega arith) h) in
    rw (append_assoc (character_row first (glyph first)) (rows_in glyph (first + 1) count) rest)
    (row_rises before first (glyph first) (rows_in glyph (first + 1) count ++ rest) up
    (numbers_before glyph (first + 1) count rest before later (above_more before first (first + 1) (omega arith) up))
    (numbers_before glyph (first + 1) count rest (Some first) later (above_next first (first + 1) (omega arith))))

-- the rows of ranges
pub rows_rise : (table : List ℕ) (rs : List CharacterRange) (least : ℕ) (before : Option ℕ) → above before least → rises_after before (rows_of table least rs)
unfolding range_count rows_in
rows_rise table [] least before up = refl
rows_rise table (r ∷ rs) least before up =
    let from = max least r.first in
    let count = min r.end 1114112 - from in
    let rest = rows_of table (max least r.end) rs in
    elim (cases_lt from (min r.end 1114112)) [
      | inl some ↦ numbers_before (glyph_in table r) from count rest before
          (λ b h. rows_rise table rs (max least r.end) b (above_more b (from + count) (max least r.end) (omega (arith, some)) h))
          (above_more before least from (omega arith) up)
      | inr none ↦
          let e : count ≡ 0 = omega (arith, none) in
          rw e (rows_rise table rs (max least r.end) before (above_more before least (max least r.end) (omega arith) up))
    ]

pub ranges_rise : (table : List ℕ) (a : RangeArray) → numbers_rise (λ r. r.character) (rows_of table 0 (ranges_of table a)) ≡ true
ranges_rise table a = rows_rise table (ranges_of table a) 0 None refl

-- ---- encodings

-- the rows of a symbol subtable
pub symbol_rises : (table : List ℕ) (a : RangeArray) (rows : List CharacterRow) → numbers_rise (λ r. r.character) (symbol_rows table a rows) ≡ true
unfolding symbol_rows
symbol_rises table a rows = numbers_before (symbol_glyph (row_glyph rows)) 0 256 (rows_of table 256 (ranges_of table a)) None (λ b h. rows_rise table (ranges_of table a) 256 b h) refl

-- the rows of pairs of rising characters, all above a number
coded_rises : (rows : List CharacterRow) (ps : List (ℕ × ℕ)) (low : ℕ) → is_rising nat_cmp (λ p. p.0) (Some low) ps ≡ true → (b : Option ℕ) → above b (low + 1) → rises_after b (flat_map (roman_row rows) ps)
coded_rises rows [] low rise b up = refl
coded_rises rows (p ∷ ps) low rise b up =
    let parts = and_parts (is_above nat_cmp (Some low) p.0) (is_rising nat_cmp (λ q. q.0) (Some p.0) ps) rise in
    let first = parts.0 in
    let more : low + 1 ≤ p.0 = grind (arith, nat_tests, first) in
    row_rises b p.0 (row_glyph rows p.1) (flat_map (roman_row rows) ps) (above_more b (low + 1) p.0 more up)
    (coded_rises rows ps p.0 parts.1 b (above_more b (low + 1) (p.0 + 1) (omega (arith, more)) up))
    (coded_rises rows ps p.0 parts.1 (Some p.0) (above_next p.0 (p.0 + 1) (omega arith)))

upper_rises : is_rising nat_cmp (λ p. p.0) (Some 127) upper_codes ≡ true
unfolding upper_codes
upper_rises = refl

-- the rows of a subtable of Mac Roman
pub roman_rises : (rows : List CharacterRow) → numbers_rise (λ r. r.character) (roman_rows rows) ≡ true
unfolding roman_rows
roman_rises rows = numbers_before (row_glyph rows) 0 128 (flat_map (roman_row rows) upper_codes) None (λ b h. coded_rises rows upper_codes 127 upper_rises b h) refl

-- The rows give each character the glyph that the rule of its range gives it.
use Rattle.std.proofs.Common.{◌≡◌, ◌≢◌, ℕ, zero, suc, ◌+◌, ◌-◌, ◌<◌, ◌≤◌, inl, inr, ◌==◌, nat_le, nat_lt, min, max, true, false, if◌then◌else◌, List, [], ◌∷◌, ◌++◌, refl, ap, ◌∙◌, subst, append_assoc, arith}
use Rattle.std.proofs.lemmas.Bool.{cases_Bool, cases_eq, cases_lt}
use Rattle.std.proofs.lemmas.Bool.Decides.{nat_tests}
use Rattle.layout_face.specs.declared.parts.CharacterRow.{CharacterRow}
use Rattle.font_cmap.specs.declared.ranges.CharacterRange.{CharacterRange}
use Rattle.font_cmap.specs.declared.ranges.RangeArray.{RangeArray}
use Rattle.font_cmap.specs.Ranges.{glyph_in}
use Rattle.font_cmap.specs.Rows.{is_character, glyph_among, character_row, rows_in, range_count, rows_of, ranges_of}
use Rattle.font_cmap.specs.Encoded.{row_glyph}
use Rattle.font_cmap.specs.Glyphs.{range_glyph}

-- ---- rows

-- the glyph of a character by rows, 0 where it has none
abbrev pub glyph_in_rows : ℕ → List CharacterRow → ℕ
glyph_in_rows c [] = 0
glyph_in_rows c (r ∷ rs) = if r.character == c then r.glyph else glyph_in_rows c rs

-- that is the glyph of its row
pub found_in_rows : (c : ℕ) (rows : List CharacterRow) → row_glyph rows c ≡ glyph_in_rows c rows
found_in_rows c [] = refl
found_in_rows c (r ∷ rs) =
    elim (cases_Bool (r.character == c)) [
      | inl here ↦ rw here refl
      | inr other ↦ rw other (found_in_rows c rs)
    ]

-- ---- one row

-- the row of a character, before other rows
row_there : (c g : ℕ) (rest : List CharacterRow) → is_character c ≡ true → glyph_in_rows c (character_row c g ++ rest) ≡ (if g == 0 then glyph_in_rows c rest else g)
unfolding character_row
row_there c g rest is =
    let same : (c == c) ≡ true = grind (arith, nat_tests) in
    elim (cases_Bool (g == 0)) [
      | inl none ↦ rw none refl
      | inr some ↦ rw (some, is, same) refl
    ]

-- the row of another number
row_elsewhere : (c d g : ℕ) (rest : List CharacterRow) → c ≢ d → glyph_in_rows c (character_row d g ++ rest) ≡ glyph_in_rows c rest
unfolding character_row
row_elsewhere c d g rest apart =
    let other : (d == c) ≡ false = grind (arith, nat_tests) in
    elim (cases_Bool (g == 0)) [
      | inl none ↦ rw none refl
      | inr some ↦ elim (cases_Bool (is_character d)) [
        | inl is ↦ rw (some, is, other) refl
        | inr off ↦ rw (some, off) refl
      ]
    ]

-- the row of what is no character
row_of_none : (c d g : ℕ) (rest : List CharacterRow) → is_character c ≡ false → glyph_in_rows c (character_row d g ++ rest) ≡ glyph_in_rows c rest
unfolding character_row
row_of_none c d g rest none =
    elim (cases_eq c d) [
      | inl same ↦
          let none_d : is_character d ≡ false = subst (λ (n : ℕ). is_character n ≡ false) same none in
          elim (cases_Bool (g == 0)) [
            | inl zeroed ↦ rw zeroed refl
            | inr some ↦ rw (some, none_d) refl
          ]
      | inr apart ↦ row_elsewhere c d g rest apart
    ]

-- ---- the rows of numbers

numbers_split : (glyph : ℕ → ℕ) (first count : ℕ) (rest : List CharacterRow)
    → rows_in glyph first (suc count) ++ rest ≡ character_row first (glyph first) ++ (rows_in glyph (first + 1) count ++ rest)
unfolding rows_in
numbers_split glyph first count rest = append_assoc (character_row first (glyph first)) (rows_in glyph (first + 1) count) rest

no_numbers : (glyph : ℕ → ℕ) (first : ℕ) (rest : List CharacterRow) → rows_in glyph first zero ++ rest ≡ rest
unfolding rows_in
no_numbers glyph first rest = refl

-- a character before them
pub numbers_below : (glyph : ℕ → ℕ) (c first count : ℕ) (rest : List CharacterRow) → c < first → glyph_in_rows c (rows_in glyph first count ++ rest) ≡ glyph_in_rows c rest
numbers_below glyph c first zero rest low = ap (glyph_in_rows c) (no_numbers glyph first rest)
numbers_below glyph c first (suc count) rest low =
    ap (glyph_in_rows c) (numbers_split glyph first count rest)
    ∙ row_elsewhere c first (glyph first) (rows_in glyph (first + 1) count ++ rest) (λ e. absurd (omega (arith, e, low)))
    ∙ numbers_below glyph c (first + 1) count rest (omega arith)

-- a character after them
pub numbers_above : (glyph : ℕ → ℕ) (c first count : ℕ) (rest : List CharacterRow) → first + count ≤ c → glyph_in_rows c (rows_in glyph first count ++ rest) ≡ glyph_in_rows c rest
numbers_above glyph c first zero rest high = ap (glyph_in_rows c) (no_numbers glyph first rest)
numbers_above glyph c first (suc count) rest high =
    ap (glyph_in_rows c) (numbers_split glyph first count rest)
    ∙ row_elsewhere c first (glyph first) (rows_in glyph (first + 1) count ++ rest) (λ e. absurd (omega (arith, e, high)))
    ∙ numbers_above glyph c (first + 1) count rest (omega arith)

-- what is no character
pub numbers_none : (glyph : ℕ → ℕ) (c first count : ℕ) (rest : List CharacterRow) → is_character c ≡ false → glyph_in_rows c (rows_in glyph first count ++ rest) ≡ glyph_in_rows c rest
numbers_none glyph c first zero rest none = ap (glyph_in_rows c) (no_numbers glyph first rest)
numbers_none glyph c first (suc count) rest none =
    ap (glyph_in_rows c) (numbers_split glyph first count rest)
    ∙ row_of_none c first (glyph first) (rows_in glyph (first + 1) count ++ rest) none
    ∙ numbers_none glyph c (first + 1) count rest none

-- the first of them
numbers_first : (glyph : ℕ → ℕ) (c count : ℕ) (rest : List CharacterRow) → is_character c ≡ true
    → glyph_in_rows c (rows_in glyph c (suc count) ++ rest) ≡ (if glyph c == 0 then glyph_in_rows c rest else glyph c)
numbers_first glyph c count rest is =
    ap (glyph_in_rows c) (numbers_split glyph c count rest)
    ∙ row_there c (glyph c) (rows_in glyph (c + 1) count ++ rest) is
    ∙ ap (λ n. if glyph c == 0 then n else glyph c) (numbers_below glyph c (c + 1) count rest (omega arith))

-- one of them
pub numbers_inside : (glyph : ℕ → ℕ) (c first count : ℕ) (rest : List CharacterRow) → is_character c ≡ true → first ≤ c → c < first + count
    → glyph_in_rows c (rows_in glyph first count ++ rest) ≡ (if glyph c == 0 then glyph_in_rows c rest else glyph c)
numbers_inside glyph c first zero rest is low high = absurd (omega arith)
numbers_inside glyph c first (suc count) rest is low high =
    elim (cases_eq c first) [
      | inl same ↦
          let P : ℕ → Type 0 = λ n. glyph_in_rows c (rows_in glyph n (suc count) ++ rest) ≡ (if glyph c == 0 then glyph_in_rows c rest else glyph c) in
          subst P same (numbers_first glyph c count rest is)
      | inr apart ↦
          ap (glyph_in_rows c) (numbers_split glyph first count rest)
          ∙ row_elsewhere c first (glyph first) (rows_in glyph (first + 1) count ++ rest) apart
          ∙ numbers_inside glyph c (first + 1) count rest is (omega (arith, apart)) (omega arith)
    ]

-- ---- the rows of ranges

-- a character below all of theirs has no row
pub none_below : (table : List ℕ) (rs : List CharacterRange) (least c : ℕ) → c < least → glyph_in_rows c (rows_of table least rs) ≡ 0
none_below table [] least c low = refl
none_below table (r ∷ rs) least c low =
    numbers_below (glyph_in table r) c (max least r.first) (range_count least r) (rows_of table (max least r.end) rs) (omega arith)
    ∙ none_below table rs (max least r.end) c (omega arith)

-- what is no character has no row
pub none_of_ranges : (table : List ℕ) (rs : List CharacterRange) (least c : ℕ) → is_character c ≡ false → glyph_in_rows c (rows_of table least rs) ≡ 0
none_of_ranges table [] least c none = refl
none_of_ranges table (r ∷ rs) least c none =
    numbers_none (glyph_in table r) c (max least r.first) (range_count least r) (rows_of table (max least r.end) rs) none
    ∙ none_of_ranges table rs (max least r.end) c none

-- 0 is no glyph
pub or_zero : (g r : ℕ) → r ≡ 0 → (if g == 0 then r else g) ≡ g
or_zero g r none = grind (arith, nat_tests)

-- a character is at most U+10FFFF
is_low : (c : ℕ) → is_character c ≡ true → c < 1114112
is_low c is =
    elim (cases_lt c 1114112) [
      | inl low ↦ low
      | inr high ↦
          let one : nat_lt c 0xD800 ≡ false = grind (arith, nat_tests, high) in
          let two : nat_le c 0x10FFFF ≡ false = grind (arith, nat_tests, high) in
          let three : nat_le 0xE000 c ≡ true = grind (arith, nat_tests, high) in
          absurd (let e : false ≡ true = rw (one, two, three) at is in cc)
    ]

-- a character past the end of a range
numbers_over : (table : List ℕ) (r : CharacterRange) (least c : ℕ) (rest : List CharacterRow) → r.end ≤ c → least ≤ c
    → glyph_in_rows c (rows_in (glyph_in table r) (max least r.first) (range_count least r) ++ rest) ≡ glyph_in_rows c rest
unfolding range_count
numbers_over table r least c rest past low =
    let from = max least r.first in
    elim (cases_lt from (min r.end 1114112)) [
      | inl some ↦ numbers_above (glyph_in table r) c from (min r.end 1114112 - from) rest (omega (arith, some, past))
      | inr none ↦
          let e : min r.end 1114112 - from ≡ 0 = omega (arith, none) in
          rw e (ap (glyph_in_rows c) (no_numbers (glyph_in table r) from rest))
    ]

-- each character from a least one on has the glyph that its range gives it
pub ranges_are_exact : (table : List ℕ) (rs : List CharacterRange) (least c : ℕ) → is_character c ≡ true → least ≤ c → glyph_in_rows c (rows_of table least rs) ≡ glyph_among table rs c
unfolding range_count
ranges_are_exact table [] least c is low = refl
ranges_are_exact table (r ∷ rs) least c is low =
    let from = max least r.first in
    let rest = rows_of table (max least r.end) rs in
    let limit = is_low c is in
    elim (cases_lt c r.end) [
      | inl before ↦
          let ends : nat_lt c r.end ≡ true = grind (arith, nat_tests, before) in
          let none = none_below table rs (max least r.end) c (omega (arith, before)) in
          elim (cases_lt c r.first) [
            | inl apart ↦
                let off : nat_le r.first c ≡ false = grind (arith, nat_tests, apart) in
                rw (ends, off) (numbers_below (glyph_in table r) c from (range_count least r) rest (omega (arith, apart)) ∙ none)
            | inr within ↦
                let on : nat_le r.first c ≡ true = grind (arith, nat_tests, within) in
                rw (ends, on)
                (numbers_inside (glyph_in table r) c from (range_count least r) rest is (omega (arith, within, low)) (omega (arith, before, limit))
                ∙ or_zero (glyph_in table r c) (glyph_in_rows c rest) none)
          ]
      | inr past ↦
          let off : nat_lt c r.end ≡ false = grind (arith, nat_tests, past) in
          rw off
          (numbers_over table r least c rest past low
          ∙ ranges_are_exact table rs (max least r.end) c is (omega (arith, past, low)))
    ]

-- each number has the glyph that the ranges of a subtable give it
pub array_is_exact : (table : List ℕ) (a : RangeArray) (c : ℕ) → row_glyph (rows_of table 0 (ranges_of table a)) c ≡ range_glyph table a c
array_is_exact table a c =
    elim (cases_Bool (is_character c)) [
      | inl is ↦ rw is (found_in_rows c (rows_of table 0 (ranges_of table a)) ∙ ranges_are_exact table (ranges_of table a) 0 c is (omega arith))
      | inr none ↦ rw none (found_in_rows c (rows_of table 0 (ranges_of table a)) ∙ none_of_ranges table (ranges_of table a) 0 c none)
    ]

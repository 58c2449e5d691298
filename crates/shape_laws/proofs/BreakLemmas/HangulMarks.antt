-- Which characters of Hangul are marks.
use Rattle.std.proofs.Common.{ℕ, ◌≡◌, ◌≤◌, ◌-◌, ◌%◌, ◌==◌, ◌||◌, ◌&&◌, inl, inr, nat_le, nat_lt, not, Bool, true, false, leb-true, ltb-true, List, [], ◌∷◌, Some, arith, refl, sym, ap, subst, ◌∙◌}
use Rattle.std.specs.List.{list_all}
use Rattle.std.proofs.lemmas.Bool.{and_parts, cases_Bool, cond-true, cond-false, cond_both, or_cases}
use Rattle.std.proofs.lemmas.Bool.Decides.{nat_tests}
use Rattle.std.proofs.lemmas.Grind.{common_steps}
use Rattle.ucd_category.specs.declared.GeneralCategory.{GeneralCategory}
use Rattle.ucd_category.specs.declared.GeneralCategory.TheVariants.{Unassigned}
use Rattle.ucd_category.specs.GeneralCategory.{general_category}
use Rattle.ucd_category.specs.GeneralCategoryRows.{general_category_rows}
use Rattle.ucd_table.specs.Rows.{Row, value_in}
use Rattle.buffer_unicode.specs.Category.{is_mark_category}
use Rattle.buffer_unicode.specs.Character.{is_in_range}
use Rattle.buffer_unicode_tables.proofs.Syllables.{among_bounds, hangul_pairs_are_splits, no_split_without_syllable}
use Rattle.buffer_unicode_tables.specs.Hangul.{hangul_pair, hangul_split, is_among, is_trailing_consonant}
use Rattle.buffer_unicode_tables.specs.Hangul.{is_syllable as is_composed}
use Rattle.buffer_properties.specs.Properties.{is_mark_character}
use Rattle.script_hangul.specs.Jamo.{is_leading, is_syllable, is_tone, is_trailing, is_vowel}
use Rattle.shape_laws.specs.Breaks.ChainLaws.{TonesAreMarks}
use Rattle.shape_laws.specs.Breaks.HangulCharacters.{begins_syllable, continues_syllable}
use Rattle.script_hangul.proofs.WrittenSyllables.{in_range as within}

-- ---- tone marks

low_mark : is_mark_character 0x302E ≡ true
unfolding general_category value_in general_category_rows
low_mark = refl

high_mark : is_mark_character 0x302F ≡ true
unfolding general_category value_in general_category_rows
high_mark = refl

pub tones_are_marks : TonesAreMarks
tones_are_marks u e = by_low (u == 0x302E) refl
  where
    by_high : (b : Bool) → (u == 0x302E) ≡ false → (u == 0x302F) ≡ b → is_mark_character u ≡ true
    by_high true none f = let is : u ≡ 0x302F = grind (arith, nat_tests, common_steps, f) in subst (λ (n : ℕ). is_mark_character n ≡ true) (sym is) high_mark
    by_high false none f = cc

    by_low : (b : Bool) → (u == 0x302E) ≡ b → is_mark_character u ≡ true
    by_low true f = let is : u ≡ 0x302E = grind (arith, nat_tests, common_steps, f) in subst (λ (n : ℕ). is_mark_character n ≡ true) (sym is) low_mark
    by_low false f = by_high (u == 0x302F) f refl

-- a character that is no mark is no tone mark
pub no_tone : (u : ℕ) → is_mark_character u ≡ false → is_tone u ≡ false
no_tone u none = by_test (is_tone u) refl
  where
    by_test : (b : Bool) → is_tone u ≡ b → b ≡ false
    by_test true e = let m = tones_are_marks u e in cc
    by_test false e = refl

-- ---- jamo and syllables

-- a row of the table holds no character of a range, or its characters are no marks
abbrev holds_none : ℕ → ℕ → Row GeneralCategory → Bool
holds_none low high r = nat_lt r.1 low || (nat_lt high r.0 || not (is_mark_category r.2))

unmarked_row : (low high u : ℕ) (r : Row GeneralCategory) → low ≤ u → u ≤ high → holds_none low high r ≡ true → (nat_le r.0 u && nat_le u r.1) ≡ true → is_mark_category r.2 ≡ false
unmarked_row low high u r a b h inside =
    let both = and_parts (nat_le r.0 u) (nat_le u r.1) inside in
    let from = leb-true r.0 u both.0 in
    let to = leb-true u r.1 both.1 in
    elim (or_cases (nat_lt r.1 low) (nat_lt high r.0 || not (is_mark_category r.2)) h) [
      | inl below ↦ let lt = ltb-true r.1 low below in absurd (omega (arith, lt, to, a))
      | inr rest ↦ elim (or_cases (nat_lt high r.0) (not (is_mark_category r.2)) rest) [
        | inl above ↦ let lt = ltb-true high r.0 above in absurd (omega (arith, lt, from, b))
        | inr none ↦ by_test (is_mark_category r.2) none
      ]
    ]
  where
    by_test : (m : Bool) → not m ≡ true → m ≡ false
    by_test true e = cc
    by_test false e = refl

unmarked_rows : (low high u : ℕ) (rs : List (Row GeneralCategory)) → low ≤ u → u ≤ high → list_all (holds_none low high) rs ≡ true → is_mark_category (value_in Unassigned rs u) ≡ false
unfolding value_in
unmarked_rows low high u [] a b h = refl
unmarked_rows low high u (r ∷ rs) a b h =
    let both = and_parts (holds_none low high r) (list_all (holds_none low high) rs) h in
    elim (cases_Bool (nat_le r.0 u && nat_le u r.1)) [
      | inl inside ↦ ap is_mark_category (cond-true _ _ _ inside) ∙ unmarked_row low high u r a b both.0 inside
      | inr outside ↦ ap is_mark_category (cond-false _ _ _ outside) ∙ unmarked_rows low high u rs a b both.1
    ]

first_rows : list_all (holds_none 0x1100 0x11FF) general_category_rows ≡ true
unfolding general_category_rows
first_rows = refl

second_rows : list_all (holds_none 0xA960 0xA97C) general_category_rows ≡ true
unfolding general_category_rows
second_rows = refl

third_rows : list_all (holds_none 0xAC00 0xD7FB) general_category_rows ≡ true
unfolding general_category_rows
third_rows = refl

unmarked_between : (low high u : ℕ) → list_all (holds_none low high) general_category_rows ≡ true → low ≤ u → u ≤ high → is_mark_character u ≡ false
unfolding general_category
unmarked_between low high u rows a b = unmarked_rows low high u general_category_rows a b rows

-- a character is no mark, and no U+034F
abbrev pub IsLetter : ℕ → Type 0
IsLetter u = (is_mark_character u ≡ false) × ((u == 0x34F) ≡ false)

-- jamo of the first block are letters, and so are those of the other ones, and syllables
pub jamo_is_letter : (u : ℕ) → 0x1100 ≤ u → u ≤ 0x11FF → IsLetter u
jamo_is_letter u a b = (unmarked_between 0x1100 0x11FF u first_rows a b, grind (arith, nat_tests, common_steps, a))

extended_is_letter : (u : ℕ) → 0xA960 ≤ u → u ≤ 0xA97C → IsLetter u
extended_is_letter u a b = (unmarked_between 0xA960 0xA97C u second_rows a b, grind (arith, nat_tests, common_steps, a))

pub syllable_is_letter : (u : ℕ) → 0xAC00 ≤ u → u ≤ 0xD7FB → IsLetter u
syllable_is_letter u a b = (unmarked_between 0xAC00 0xD7FB u third_rows a b, grind (arith, nat_tests, common_steps, a))

-- a character that begins a syllable is a letter
pub beginning_is_letter : (u : ℕ) → begins_syllable u ≡ true → IsLetter u
beginning_is_letter u e = elim (or_cases (is_leading u) (is_syllable u) e) [
  | inl leading ↦ elim (or_cases (is_in_range u (0x1100, 0x115F)) (is_in_range u (0xA960, 0xA97C)) leading) [
    | inl first ↦ let k = within u 0x1100 0x115F first in let to = k.1 in jamo_is_letter u k.0 (omega (arith, to))
    | inr more ↦ let k = within u 0xA960 0xA97C more in extended_is_letter u k.0 k.1
  ]
  | inr whole ↦ let k = within u 0xAC00 0xD7A3 whole in let to = k.1 in syllable_is_letter u k.0 (omega (arith, to))
]

-- and so is one that continues a syllable
pub continuing_is_letter : (u : ℕ) → continues_syllable u ≡ true → IsLetter u
continuing_is_letter u e = elim (or_cases (is_vowel u) (is_trailing u) e) [
  | inl vowel ↦ elim (or_cases (is_in_range u (0x1160, 0x11A7)) (is_in_range u (0xD7B0, 0xD7C6)) vowel) [
    | inl first ↦ let k = within u 0x1160 0x11A7 first in let from = k.0 in let to = k.1 in jamo_is_letter u (omega (arith, from)) (omega (arith, to))
    | inr more ↦ let k = within u 0xD7B0 0xD7C6 more in let from = k.0 in let to = k.1 in syllable_is_letter u (omega (arith, from)) (omega (arith, to))
  ]
  | inr trailing ↦ elim (or_cases (is_in_range u (0x11A8, 0x11FF)) (is_in_range u (0xD7CB, 0xD7FB)) trailing) [
    | inl first ↦ let k = within u 0x11A8 0x11FF first in let from = k.0 in jamo_is_letter u (omega (arith, from)) k.1
    | inr more ↦ let k = within u 0xD7CB 0xD7FB more in let from = k.0 in syllable_is_letter u (omega (arith, from)) k.1
  ]
]

-- a tone mark is no U+034F
pub tone_unjoined : (u : ℕ) → is_tone u ≡ true → (u == 0x34F) ≡ false
tone_unjoined u e = grind (arith, nat_tests, common_steps, e)

-- ---- composition

-- a syllable that is composed is a letter, and so are both that it is composed of
pub composed_is_letter : (a b w : ℕ) → hangul_pair a b ≡ Some w → IsLetter w
composed_is_letter a b w e = by_test (is_composed w) refl
  where
    by_test : (t : Bool) → is_composed w ≡ t → IsLetter w
    by_test true f = let k = among_bounds 0xAC00 11172 w f in let to = k.1 in syllable_is_letter w k.0 (omega (arith, to))
    by_test false f = absurd (let split = (hangul_pairs_are_splits a b w).0 e in let none = no_split_without_syllable w f in cc)

pair_of_letters : (a b w : ℕ) → hangul_pair a b ≡ Some w → IsLetter a × IsLetter b
unfolding hangul_pair
pair_of_letters a b w h =
    cond_both (is_among 0x1100 19 a && is_among 0x1161 21 b) _ _ (λ o. o ≡ Some w → IsLetter a × IsLetter b)
    (λ first e.
    let both = and_parts (is_among 0x1100 19 a) (is_among 0x1161 21 b) first in
    let leading = among_bounds 0x1100 19 a both.0 in
    let vowel = among_bounds 0x1161 21 b both.1 in
    (jamo_is_letter a (omega (arith, leading)) (omega (arith, leading)), jamo_is_letter b (omega (arith, vowel)) (omega (arith, vowel))))
    (λ _ later.
    cond_both ((is_composed a && (a - 0xAC00) % 28 == 0) && is_trailing_consonant b) _ _ (λ o. o ≡ Some w → IsLetter a × IsLetter b)
    (λ second e.
    let both = and_parts (is_composed a && (a - 0xAC00) % 28 == 0) (is_trailing_consonant b) second in
    let of_a = and_parts (is_composed a) ((a - 0xAC00) % 28 == 0) both.0 in
    let syllable = among_bounds 0xAC00 11172 a of_a.0 in
    let trailing = among_bounds 0x11A8 27 b both.1 in
    (syllable_is_letter a (omega (arith, syllable)) (omega (arith, syllable)), jamo_is_letter b (omega (arith, trailing)) (omega (arith, trailing))))
    (λ _ e. cc)
    later)
    h

pub split_in_letters : (a b w : ℕ) → hangul_split w ≡ Some (a, b) → IsLetter a × IsLetter b
split_in_letters a b w e = pair_of_letters a b w ((hangul_pairs_are_splits a b w).1 e)

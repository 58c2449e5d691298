-- Where a text of Thai or Lao that is broken into two is normalized in two, by its characters.
use Rattle.std.proofs.Common.{ℕ, zero, suc, ◌≡◌, ◌<◌, ◌+◌, ◌-◌, ◌*◌, ◌/◌, ◌%◌, ◌==◌, ◌||◌, ◌&&◌, ◌⊎◌, inl, inr, not, Bool, true, false, if◌then◌else◌, eqb-true, List, [], ◌∷◌, ◌++◌, length, arith, refl, sym, ap, subst, ◌∙◌}
use Rattle.std.specs.List.{list_any}
use Rattle.std.specs.Int.RustNames.{bit_and}
use Rattle.std.proofs.lemmas.Bool.{cases_Bool, cond-true, cond-false}
use Rattle.std.proofs.lemmas.Nat.Bits.{and_high}
use Rattle.buffer_glyphs.specs.Items.{Item}
use Rattle.buffer_properties.specs.Characters.{is_mark}
use Rattle.buffer_properties.specs.NormalizedList.{has_later_mark}
use Rattle.buffer_properties.specs.Properties.{is_mark_character}
use Rattle.script_thai.specs.ThaiVowel.{count_above, is_mark_above, is_sara_am, nikhahit, sara_aa, text_with_splits, thai_or_lao, with_character}
use Rattle.shape_text.specs.Circle.{DOTTED_CIRCLE}
use Rattle.shape_laws.specs.Breaks.Characters.{characters}
use Rattle.shape_laws.specs.Breaks.ThaiCharacters.{IsMarkedText, IsUnmarkedText, is_plain_mark}
use Rattle.shape_laws.proofs.BreakLemmas.Marks.{AreOf, marks_are}
use Rattle.shape_laws.proofs.BreakLemmas.Thai.{none_above}
use Rattle.shape_laws.proofs.BreakLemmas.ThaiMarks.{IsMarkedLater, is_other_mark, marked_later, vowelless_stays}
use Rattle.buffer_facts.proofs.Truth.{or_true}
use Rattle.buffer_facts.proofs.Lists.{first_equal as first_number, rest_equal as rest_numbers}

-- ---- tests of numbers

-- a test of numbers finds the same in items with the same numbers
any_number : (f : ℕ → Bool) (xs zs : List Item) → characters zs ≡ characters xs → list_any (λ (z : Item). f z.number) zs ≡ list_any (λ (x : Item). f x.number) xs
any_number f xs zs e = sym (by_numbers zs) ∙ ap (list_any f) e ∙ by_numbers xs
  where
    by_numbers : (ys : List Item) → list_any f (characters ys) ≡ list_any (λ (y : Item). f y.number) ys
    by_numbers [] = refl
    by_numbers (y ∷ ys) = ap (λ b. f y.number || b) (by_numbers ys)

-- whether a number is that of such a vowel
abbrev vowel_number : ℕ → Bool
vowel_number u = thai_or_lao u == 0x0E33

-- the marks among items of characters, but for such vowels
other_marks : (xs zs : List Item) → AreOf (characters xs) zs → characters zs ≡ characters xs → list_any is_other_mark zs ≡ list_any is_plain_mark xs
other_marks [] [] p e = refl
other_marks [] (z ∷ zs) p e = absurd p
other_marks (x ∷ xs) [] p e = absurd p
other_marks (x ∷ xs) (z ∷ zs) p e =
    let same = first_number z.number x.number (characters zs) (characters xs) e in
    let rest = rest_numbers z.number x.number (characters zs) (characters xs) e in
    ap (λ b. (b && not (is_sara_am z)) || list_any is_other_mark zs) p.0.mark ∙ ap (λ (n : ℕ). (is_mark_character x.number && not (vowel_number n)) || list_any is_other_mark zs) same
    ∙ ap (λ b. is_plain_mark x || b) (other_marks xs zs p.1 rest)

-- ---- the halves of a vowel

-- the number of such a vowel
vowel_numbers : (u : ℕ) → vowel_number u ≡ true → (u ≡ 0xE33) ⊎ (u ≡ 0xEB3)
vowel_numbers u e =
    let at : thai_or_lao u ≡ 0x0E33 = eqb-true (thai_or_lao u) 0x0E33 e in
    let bit : bit_and u 0x80 ≡ (u / 128 % 2) * 128 = and_high u 1 7 in
    by_bit (u / 128 % 2) refl (bit_and u 0x80) bit at
  where
    by_bit : (q : ℕ) → q ≡ u / 128 % 2 → (r : ℕ) → r ≡ q * 128 → u - r ≡ 0x0E33 → (u ≡ 0xE33) ⊎ (u ≡ 0xEB3)
    by_bit zero f r g h = inl (omega (arith, g, h))
    by_bit (suc zero) f r g h = inr (omega (arith, g, h))
    by_bit (suc (suc q)) f r g h = absurd (omega (arith, f))

second_below : (x : Item) → is_sara_am x ≡ true → is_mark_above (sara_aa x) ≡ false
second_below x e = elim (vowel_numbers x.number e) [
  | inl thai ↦ ap (λ (n : ℕ). is_mark_above (record x { number = n - 1 })) thai
  | inr lao ↦ ap (λ (n : ℕ). is_mark_above (record x { number = n - 1 })) lao
]

-- the two halves don't end with a mark above
halves_below : (a b : Item) → is_mark_above b ≡ false → count_above (a ∷ b ∷ []) ≡ 0
halves_below a b e = ap (λ t. if t then 1 + (if is_mark_above a then 1 + 0 else 0) else 0) e

-- the first character once it is decomposed
first_below : (z : Item) → (is_sara_am z ≡ true) ⊎ (is_mark_above z ≡ false) → count_above (with_character [] z) < length (with_character [] z)
first_below z h = elim (cases_Bool (is_sara_am z)) [
  | inl found ↦
      let none = halves_below (nikhahit z) (sara_aa z) (second_below z found) in
      subst (λ o. count_above o < length o) (sym (cond-true _ _ _ found)) (below_two (nikhahit z ∷ sara_aa z ∷ []) none (omega arith))
  | inr lacks ↦ subst (λ o. count_above o < length o) (sym (cond-false _ _ _ lacks)) (elim h [
    | inl found ↦ absurd (let is : true ≡ false = sym found ∙ lacks in cc)
    | inr below ↦ below_two (z ∷ []) (none_above z below) (omega arith)
  ])
]
  where
    below_two : (o : List Item) → count_above o ≡ 0 → 0 < length o → count_above o < length o
    below_two o e some = omega (arith, e, some)

-- ---- marks once vowels are decomposed

begins_marked : (out xs : List Item) → 0 < length out → (list_any is_other_mark xs ≡ true) ⊎ ((count_above out < length out) × (list_any is_sara_am xs ≡ true)) → IsMarkedLater out xs
begins_marked [] xs some h = absurd (omega (arith, some))
begins_marked (o ∷ out) xs some h = inr h

first_some : (z : Item) → 0 < length (with_character [] z)
first_some z = elim (is_sara_am z) as (λ b. 0 < length (if b then (nikhahit z ∷ []) ++ sara_aa z ∷ [] else z ∷ [])) [ true ↦ omega arith | false ↦ omega arith ]

-- a text with a mark or a vowel after its first character has a later mark once vowels are decomposed
pub plain_marked : (xs zs : List Item) → AreOf (characters xs) zs → characters zs ≡ characters xs → IsMarkedText xs → has_later_mark (text_with_splits [] zs) ≡ true
plain_marked [] zs p e h = absurd h
plain_marked (x ∷ xs) [] p e h = absurd p
plain_marked (x ∷ xs) (z ∷ zs) p e h =
    let same = first_number z.number x.number (characters zs) (characters xs) e in
    let rest = rest_numbers z.number x.number (characters zs) (characters xs) e in
    marked_later (with_character [] z) zs (begins_marked (with_character [] z) zs (first_some z) (elim h [
      | inl marks ↦ inl (other_marks xs zs p.1 rest ∙ marks)
      | inr vowels ↦ inr (first_below z (inr (ap (λ (n : ℕ). is_mark_above (record z { number = n })) same ∙ vowels.0)), any_number vowel_number xs zs rest ∙ vowels.1)
    ]))

-- and so has one after a circle
pub circled_marked : (xs : List Item) (zs : List Item) → AreOf (DOTTED_CIRCLE ∷ characters xs) zs → characters zs ≡ DOTTED_CIRCLE ∷ characters xs → IsMarkedText xs → has_later_mark (text_with_splits [] zs) ≡ true
circled_marked xs [] p e h = absurd p
circled_marked [] (c ∷ zs) p e h = absurd h
circled_marked (x ∷ xs) (c ∷ []) p e h = absurd p.1
circled_marked (x ∷ xs) (c ∷ z ∷ zs) p e h =
    let same = first_number c.number DOTTED_CIRCLE (characters (z ∷ zs)) (characters (x ∷ xs)) e in
    let all = rest_numbers c.number DOTTED_CIRCLE (characters (z ∷ zs)) (characters (x ∷ xs)) e in
    let rest = rest_numbers z.number x.number (characters zs) (characters xs) all in
    let plain : is_mark_above c ≡ false = ap (λ (n : ℕ). is_mark_above (record c { number = n })) same in
    marked_later (with_character [] c) (z ∷ zs) (begins_marked (with_character [] c) (z ∷ zs) (first_some c) (elim h [
      | inl marks ↦ inl (ap (λ b. is_other_mark z || b) (other_marks xs zs p.1.1 rest ∙ marks) ∙ or_true (is_other_mark z))
      | inr vowels ↦ inr (first_below c (inr plain), ap (λ b. is_sara_am z || b) (any_number vowel_number xs zs rest ∙ vowels.1) ∙ or_true (is_sara_am z))
    ]))

-- a text without marks and vowels has no mark
pub plain_unmarked : (xs zs : List Item) → AreOf (characters xs) zs → characters zs ≡ characters xs → IsUnmarkedText xs → list_any is_mark (text_with_splits [] zs) ≡ false
plain_unmarked xs zs p e h =
    ap (list_any is_mark) (vowelless_stays [] zs (any_number vowel_number xs zs e ∙ h.1)) ∙ marks_are (characters xs) zs p ∙ any_character xs ∙ h.0
  where
    any_character : (ys : List Item) → list_any is_mark_character (characters ys) ≡ list_any (λ (y : Item). is_mark_character y.number) ys
    any_character [] = refl
    any_character (y ∷ ys) = ap (λ b. is_mark_character y.number || b) (any_character ys)

-- a text that has characters has items once vowels are decomposed

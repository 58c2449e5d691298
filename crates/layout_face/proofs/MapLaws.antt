-- The glyphs of characters and of variation sequences where one is set.
use Rattle.std.proofs.Common.{◌≡◌, ℕ, ◌<◌, ◌==◌, ◌&&◌, Bool, true, false, if◌then◌else◌, List, [], ◌∷◌, ◌++◌, filter, find, nat_lt, Option, Some, None, option_map, refl, ap, ◌∙◌, append_assoc, inl, inr, arith}
use Rattle.std.specs.Option.{option_or}
use Rattle.std.proofs.lemmas.Bool.{cases_Bool, cases_order, and_parts}
use Rattle.std.proofs.lemmas.Bool.Decides.{nat_tests}
use Rattle.std.proofs.lemmas.List.Folds.{find-append}
use Rattle.buffer_facts.proofs.Numbers.{same_by_test, test_of_itself}
use Rattle.layout_face.specs.declared.parts.CharacterRow.{CharacterRow}
use Rattle.layout_face.specs.declared.parts.FaceParts.{FaceParts}
use Rattle.layout_face.specs.declared.parts.VariationRow.{VariationRow}
use Rattle.layout_face.specs.Glyphs.{nominal_glyph, variation_glyph}
use Rattle.layout_face.specs.CharacterMap.{NominalGlyphIsSet, VariationGlyphIsSet, character_rows, precedes, variation_rows, with_character, with_nominal_glyph, with_variation, with_variation_glyph}

-- ---- a record among those that pass a test

kept_by : {R : Type 0} (test p : R → Bool) (r : R) (rows : List R) (b t : Bool) → test r ≡ t → (t ≡ true → p r ≡ b) → find test (filter p rows) ≡ (if b then find test rows else None) → find test (filter p (r ∷ rows)) ≡ (if b then find test (r ∷ rows) else None)
kept_by test p r rows true true e same rest = let kept = same refl in rw (kept, e) refl
kept_by test p r rows false true e same rest = let left = same refl in rw left rest
kept_by test p r rows b false e same rest = elim (cases_Bool (p r)) [
  | inl kept ↦ rw (kept, e) rest
  | inr left ↦ rw (left, e) rest
]

-- the record that passes a test is among those of another one if that one passes it
found_among : {R : Type 0} (test p : R → Bool) (b : Bool) → ((r : R) → test r ≡ true → p r ≡ b) → (rows : List R) → find test (filter p rows) ≡ (if b then find test rows else None)
found_among test p true same [] = refl
found_among test p false same [] = refl
found_among test p b same (r ∷ rows) = kept_by test p r rows b (test r) refl (same r) (found_among test p b same rows)

or_none : {X : Type 0} (o : Option X) → option_or o None ≡ o
or_none None = refl
or_none (Some x) = refl

-- a record among those before, its own and those after
found_in_three : {R : Type 0} (test : R → Bool) (before own after : List R) → find test (before ++ own ++ after) ≡ option_or (find test before) (option_or (find test own) (find test after))
found_in_three test before own after = ap (find test) (append_assoc before own after) ∙ find-append test before (own ++ after) ∙ ap (option_or (find test before)) (find-append test own after)

-- ---- characters

same_less : (a d c : ℕ) → (a == d) ≡ true → nat_lt a c ≡ nat_lt d c
same_less a d c e = ap (λ n. nat_lt n c) (same_by_test a d e)

same_more : (a d c : ℕ) → (a == d) ≡ true → nat_lt c a ≡ nat_lt c d
same_more a d c e = ap (λ n. nat_lt c n) (same_by_test a d e)

module _ (c d : ℕ) (glyph : Option ℕ) (rows : List CharacterRow) where
  abbrev test : CharacterRow → Bool
  test r = r.character == d

  in_three : find test (with_character c glyph rows)
      ≡ option_or (if nat_lt d c then find test rows else None) (option_or (find test (character_rows c glyph)) (if nat_lt c d then find test rows else None))
  in_three =
      found_in_three test (filter (λ r. nat_lt r.character c) rows) (character_rows c glyph) (filter (λ r. nat_lt c r.character) rows)
      ∙ ap (λ o. option_or o (option_or (find test (character_rows c glyph)) (find test (filter (λ r. nat_lt c r.character) rows)))) (found_among test (λ r. nat_lt r.character c) (nat_lt d c) (λ r e. same_less r.character d c e) rows)
      ∙ ap (λ o. option_or (if nat_lt d c then find test rows else None) (option_or (find test (character_rows c glyph)) o)) (found_among test (λ r. nat_lt c r.character) (nat_lt c d) (λ r e. same_more r.character d c e) rows)

own_glyph : (c d : ℕ) (glyph : Option ℕ) → (c == d) ≡ true → option_map (λ (r : CharacterRow). r.glyph) (option_or (find (λ (r : CharacterRow). r.character == d) (character_rows c glyph)) None) ≡ glyph
own_glyph c d None e = refl
own_glyph c d (Some g) e = rw e refl

own_other : (c d : ℕ) (glyph : Option ℕ) → (c == d) ≡ false → find (λ (r : CharacterRow). r.character == d) (character_rows c glyph) ≡ None
own_other c d None e = refl
own_other c d (Some g) e = rw e refl

pub nominal_glyph_is_set : NominalGlyphIsSet
nominal_glyph_is_set font c d glyph = elim (cases_order d c) [
  | inl same ↦
      let low : nat_lt d c ≡ false = grind (arith, nat_tests, same) in
      let high : nat_lt c d ≡ false = grind (arith, nat_tests, same) in
      let here : (c == d) ≡ true = grind (arith, nat_tests, same) in
      let there : (d == c) ≡ true = grind (arith, nat_tests, same) in
      ap (option_map (λ (r : CharacterRow). r.glyph)) (in_three c d glyph font.cmap) ∙ rw (low, high, there) (own_glyph c d glyph here)
  | inr (inl below) ↦
      let low : nat_lt d c ≡ true = grind (arith, nat_tests, below) in
      let high : nat_lt c d ≡ false = grind (arith, nat_tests, below) in
      let here : (c == d) ≡ false = grind (arith, nat_tests, below) in
      let there : (d == c) ≡ false = grind (arith, nat_tests, below) in
      ap (option_map (λ (r : CharacterRow). r.glyph)) (in_three c d glyph font.cmap) ∙ rw (low, high, there, own_other c d glyph here) (ap (option_map (λ (r : CharacterRow). r.glyph)) (or_none (find (λ (r : CharacterRow). r.character == d) font.cmap)))
  | inr (inr above) ↦
      let low : nat_lt d c ≡ false = grind (arith, nat_tests, above) in
      let high : nat_lt c d ≡ true = grind (arith, nat_tests, above) in
      let here : (c == d) ≡ false = grind (arith, nat_tests, above) in
      let there : (d == c) ≡ false = grind (arith, nat_tests, above) in
      ap (option_map (λ (r : CharacterRow). r.glyph)) (in_three c d glyph font.cmap) ∙ rw (low, high, there, own_other c d glyph here) refl
]

-- ---- variation sequences

abbrev is_pair : ℕ → ℕ → VariationRow → Bool
is_pair d other r = r.character == d && r.selector == other

pair_precedes : (a x d other c selector : ℕ) → (a == d && x == other) ≡ true → precedes a x c selector ≡ precedes d other c selector
pair_precedes a x d other c selector e =
    let parts = and_parts (a == d) (x == other) e in
    ap (λ n. precedes n x c selector) (same_by_test a d parts.0) ∙ ap (λ n. precedes d n c selector) (same_by_test x other parts.1)

pair_follows : (a x d other c selector : ℕ) → (a == d && x == other) ≡ true → precedes c selector a x ≡ precedes c selector d other
pair_follows a x d other c selector e =
    let parts = and_parts (a == d) (x == other) e in
    ap (λ n. precedes c selector n x) (same_by_test a d parts.0) ∙ ap (λ n. precedes c selector d n) (same_by_test x other parts.1)

pairs_in_three : (c selector d other : ℕ) (glyph : Option ℕ) (rows : List VariationRow) → find (is_pair d other) (with_variation c selector glyph rows)
    ≡ option_or (if precedes d other c selector then find (is_pair d other) rows else None) (option_or (find (is_pair d other) (variation_rows c selector glyph)) (if precedes c selector d other then find (is_pair d other) rows else None))
pairs_in_three c selector d other glyph rows =
    found_in_three (is_pair d other) (filter (λ r. precedes r.character r.selector c selector) rows) (variation_rows c selector glyph) (filter (λ r. precedes c selector r.character r.selector) rows)
    ∙ ap (λ o. option_or o (option_or (find (is_pair d other) (variation_rows c selector glyph)) (find (is_pair d other) (filter (λ r. precedes c selector r.character r.selector) rows))))
    (found_among (is_pair d other) (λ r. precedes r.character r.selector c selector) (precedes d other c selector) (λ r e. pair_precedes r.character r.selector d other c selector e) rows)
    ∙ ap (λ o. option_or (if precedes d other c selector then find (is_pair d other) rows else None) (option_or (find (is_pair d other) (variation_rows c selector glyph)) o))
    (found_among (is_pair d other) (λ r. precedes c selector r.character r.selector) (precedes c selector d other) (λ r e. pair_follows r.character r.selector d other c selector e) rows)

pair_glyph : (c selector d other : ℕ) (glyph : Option ℕ) → (c == d && selector == other) ≡ true → option_map (λ (r : VariationRow). r.glyph) (option_or (find (is_pair d other) (variation_rows c selector glyph)) None) ≡ glyph
pair_glyph c selector d other None e = refl
pair_glyph c selector d other (Some g) e = rw e refl

pair_other : (c selector d other : ℕ) (glyph : Option ℕ) → (c == d && selector == other) ≡ false → find (is_pair d other) (variation_rows c selector glyph) ≡ None
pair_other c selector d other None e = refl
pair_other c selector d other (Some g) e = rw e refl

-- two sequences are one, or one of them precedes the other
same_pair : (c s d o : ℕ) → (d == c && o == s) ≡ true → (precedes d o c s ≡ false) × (precedes c s d o ≡ false) × ((c == d && s == o) ≡ true)
same_pair c s d o e = (grind (arith, nat_tests, e), grind (arith, nat_tests, e), grind (arith, nat_tests, e))

one_first : (c s d o : ℕ) → (d == c && o == s) ≡ false → precedes d o c s ≡ true → (precedes c s d o ≡ false) × ((c == d && s == o) ≡ false)
one_first c s d o e first = (grind (arith, nat_tests, e, first), grind (arith, nat_tests, e, first))

other_first : (c s d o : ℕ) → (d == c && o == s) ≡ false → precedes d o c s ≡ false → (precedes c s d o ≡ true) × ((c == d && s == o) ≡ false)
other_first c s d o e first = (grind (arith, nat_tests, e, first), grind (arith, nat_tests, e, first))

pub variation_glyph_is_set : VariationGlyphIsSet
variation_glyph_is_set font c s d o glyph = elim (cases_Bool (d == c && o == s)) [
  | inl same ↦
      let apart = same_pair c s d o same in
      ap (option_map (λ (r : VariationRow). r.glyph)) (pairs_in_three c s d o glyph font.variants) ∙ rw (apart.0, apart.1, same) (pair_glyph c s d o glyph apart.2)
  | inr differs ↦ elim (cases_Bool (precedes d o c s)) [
    | inl first ↦
        let rest = one_first c s d o differs first in
        ap (option_map (λ (r : VariationRow). r.glyph)) (pairs_in_three c s d o glyph font.variants) ∙ rw (first, rest.0, differs, pair_other c s d o glyph rest.1) (ap (option_map (λ (r : VariationRow). r.glyph)) (or_none (find (is_pair d o) font.variants)))
    | inr after ↦
        let rest = other_first c s d o differs after in
        ap (option_map (λ (r : VariationRow). r.glyph)) (pairs_in_three c s d o glyph font.variants) ∙ rw (after, rest.0, differs, pair_other c s d o glyph rest.1) refl
  ]
]

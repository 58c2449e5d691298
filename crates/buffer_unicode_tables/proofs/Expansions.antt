-- Full expansions of a character and of its halves.
use Rattle.std.proofs.Common.{ℕ, zero, suc, ◌≡◌, ◌≢◌, ◌+◌, ◌-◌, ◌/◌, ◌%◌, ◌<◌, ◌≤◌, ◌==◌, ◌⊎◌, Bool, true, false, List, [], ◌∷◌, ◌++◌, ne_eqb, Option, Some, None, is_none, refl, sym, ap, ◌∙◌, arith, inl, inr}
use Rattle.std.proofs.lemmas.Bool.{cases_eq, cases_Bool}
use Rattle.buffer_unicode_tables.specs.Expansion.{Splits, with_second_piece, by_halves, expansion_by_splits, ends_by, ends_within, EndWithin}
use Rattle.buffer_unicode_tables.specs.Hangul.{is_syllable, hangul_split}
use Rattle.buffer_unicode_tables.specs.Lawful.{SecondHalvesStay}
use Rattle.buffer_unicode_tables.specs.Tables.{Tables, split_of}
use Rattle.buffer_unicode_tables.specs.Texts.{full_expansion}
use Rattle.buffer_unicode_tables.proofs.Chains.{ends_with_first, expanded_alone, expanded_pieces}
use Rattle.buffer_unicode_tables.proofs.Syllables.{among_bounds, no_split_without_syllable, split_without_trailing, split_with_trailing, second_eq}

same_pieces : (f g : ℕ → List ℕ) (e : ℕ → Bool) → ((a : ℕ) → e a ≡ true → f a ≡ g a) → (u : ℕ) (s : Option (ℕ × ℕ)) → ends_by e s ≡ true → by_halves f u s ≡ by_halves g u s
same_pieces f g e same u None h = refl
same_pieces f g e same u (Some (a, b)) h = ap (with_second_piece b) (same a h)

none_alone : (f : ℕ → List ℕ) (u : ℕ) (s : Option (ℕ × ℕ)) → is_none s ≡ true → by_halves f u s ≡ u ∷ []
none_alone f u None h = refl
none_alone f u (Some (a, b)) h = cc

-- where the chain of first halves ends, more depth changes nothing
pub depth_is_enough : (splits : Splits) (depth u : ℕ) → ends_within splits depth u ≡ true → expansion_by_splits splits (suc depth) u ≡ expansion_by_splits splits depth u
unfolding expansion_by_splits ends_within
depth_is_enough splits zero u h = none_alone (expansion_by_splits splits zero) u (splits u) h
depth_is_enough splits (suc depth) u h =
    same_pieces (expansion_by_splits splits (suc depth)) (expansion_by_splits splits depth) (ends_within splits depth) (λ a k. depth_is_enough splits depth a k) u (splits u) h

-- the full expansion of the first half, then the second half
pub expansion_of_pieces : (t : Tables) (u a b : ℕ) → EndWithin (split_of t) 8 → split_of t u ≡ Some (a, b) → full_expansion t u ≡ with_second_piece b (full_expansion t a)
expansion_of_pieces t u a b ends s =
    let first = sym (ends_with_first (split_of t) 8 u a b s (omega arith)) ∙ ends u in
    let enough = depth_is_enough (split_of t) 7 a first in
    expanded_pieces (split_of t) 8 u a b s (omega arith) ∙ ap (with_second_piece b) (sym enough)

pub expansion_alone : (t : Tables) (u : ℕ) → split_of t u ≡ None → full_expansion t u ≡ u ∷ []
expansion_alone t u h = expanded_alone (split_of t) 8 u h

-- a split has the expansions of its halves
pub expansion_of_split : (t : Tables) (u a b : ℕ) → EndWithin (split_of t) 8 → SecondHalvesStay t → split_of t u ≡ Some (a, b) → b ≢ 0 → full_expansion t u ≡ full_expansion t a ++ full_expansion t b
expansion_of_split t u a b ends stay s n =
    let off : (b == 0) ≡ false = ne_eqb b 0 n in
    let whole = expansion_of_pieces t u a b ends s in
    let alone = expansion_alone t b (stay u a b s n) in
    rw alone (whole ∙ rw off refl)

-- the second half of a syllable is a vowel or a trailing consonant
pub second_is_jamo : (u a b : ℕ) → hangul_split u ≡ Some (a, b) → ((0x1161 ≤ b) × (b < 0x1161 + 21)) ⊎ ((0x11A8 ≤ b) × (b < 0x11A8 + 27))
second_is_jamo u a b h =
    elim (cases_Bool (is_syllable u)) [
      | inl syllable ↦
          let bounds = among_bounds 0xAC00 11172 u syllable in
          elim (cases_eq ((u - 0xAC00) % 28) 0) [
            | inl bare ↦
                let at : b ≡ 0x1161 + (u - 0xAC00) % 588 / 28 = second_eq _ _ _ _ (sym (split_without_trailing u bounds.0 bounds.1 bare) ∙ h) in
                inl (omega arith, omega arith)
            | inr some ↦
                let at : b ≡ 0x11A7 + (u - 0xAC00) % 28 = second_eq _ _ _ _ (sym (split_with_trailing u bounds.0 bounds.1 some) ∙ h) in
                inr (omega arith, omega arith)
          ]
      | inr other ↦ let none = no_split_without_syllable u other in cc
    ]

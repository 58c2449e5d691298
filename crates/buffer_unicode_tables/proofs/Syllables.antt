-- The arithmetic of Hangul syllables.
use Rattle.std.proofs.Common.{ℕ, ◌≡◌, ◌+◌, ◌-◌, ◌*◌, ◌/◌, ◌%◌, ◌<◌, ◌≤◌, ◌≢◌, ◌==◌, ◌&&◌, nat_le, nat_lt, true, false, Option, Some, None, sym, ap, ap₂, ◌∙◌, arith, le-leb, lt-ltb, le-ltb, leb-true, ltb-true, eqb-true, eq-eqb, ne_eqb}
use Rattle.std.proofs.lemmas.Bool.{cond-true, cond-false, cond_both, and_parts, and_from, and_left, and_right}
use Rattle.std.proofs.lemmas.Grind.{common_steps}
use Rattle.buffer_unicode_tables.specs.Hangul.{is_among, is_syllable, is_trailing_consonant, hangul_split, hangul_pair, HangulPairsAreSplits}

pub among_bounds : (base count c : ℕ) → is_among base count c ≡ true → (base ≤ c) × (c < base + count)
among_bounds base count c h =
    let pieces = and_parts (nat_le base c) (nat_lt c (base + count)) h in (leb-true base c pieces.0, ltb-true c (base + count) pieces.1)

among_from : (base count c : ℕ) → base ≤ c → c < base + count → is_among base count c ≡ true
among_from base count c low high = and_from _ _ (le-leb base c low) (lt-ltb c (base + count) high)

not_among_above : (base count c : ℕ) → base + count ≤ c → is_among base count c ≡ false
not_among_above base count c h = and_right _ _ (le-ltb c (base + count) h)

pub split_without_trailing : (s : ℕ) → 0xAC00 ≤ s → s < 0xD7A4 → (s - 0xAC00) % 28 ≡ 0
    → hangul_split s ≡ Some (0x1100 + (s - 0xAC00) / 588, 0x1161 + (s - 0xAC00) % 588 / 28)
unfolding hangul_split
split_without_trailing s low high none =
    cond-true _ _ _ (among_from 0xAC00 11172 s low high) ∙ ap Some (cond-true _ _ _ (eq-eqb _ 0 none))

pub split_with_trailing : (s : ℕ) → 0xAC00 ≤ s → s < 0xD7A4 → (s - 0xAC00) % 28 ≢ 0
    → hangul_split s ≡ Some (s - (s - 0xAC00) % 28, 0x11A7 + (s - 0xAC00) % 28)
unfolding hangul_split
split_with_trailing s low high some =
    cond-true _ _ _ (among_from 0xAC00 11172 s low high) ∙ ap Some (cond-false _ _ _ (ne_eqb _ 0 some))

pub pair_of_vowel : (a b : ℕ) → 0x1100 ≤ a → a < 0x1113 → 0x1161 ≤ b → b < 0x1176
    → hangul_pair a b ≡ Some (0xAC00 + ((a - 0x1100) * 588 + (b - 0x1161) * 28))
unfolding hangul_pair
pair_of_vowel a b la ha lb hb = cond-true _ _ _ (and_from _ _ (among_from 0x1100 19 a la ha) (among_from 0x1161 21 b lb hb))

pub pair_of_trailing : (a b : ℕ) → 0xAC00 ≤ a → a < 0xD7A4 → (a - 0xAC00) % 28 ≡ 0 → 0x11A8 ≤ b → b < 0x11C3
    → hangul_pair a b ≡ Some (a + (b - 0x11A7))
unfolding hangul_pair
pair_of_trailing a b la ha bare lb hb =
    cond-false _ _ _ (and_left _ _ (not_among_above 0x1100 19 a (omega arith)))
    ∙ cond-true _ _ _ (and_from _ _ (and_from _ _ (among_from 0xAC00 11172 a la ha) (eq-eqb _ 0 bare)) (among_from 0x11A8 27 b lb hb))

abbrev pub paired : ℕ → ℕ → Option (ℕ × ℕ)
paired a b = Some (a, b)

pair_eq : (a b c d : ℕ) → a ≡ c → b ≡ d → paired a b ≡ paired c d
pair_eq a b c d p q = ap₂ paired p q

first_in : Option (ℕ × ℕ) → ℕ
first_in None = 0
first_in (Some (a, b)) = a

second_in : Option (ℕ × ℕ) → ℕ
second_in None = 0
second_in (Some (a, b)) = b

pub first_eq : (a b c d : ℕ) → paired a b ≡ paired c d → c ≡ a
unfolding first_in
first_eq a b c d e = sym (ap first_in e)

pub second_eq : (a b c d : ℕ) → paired a b ≡ paired c d → d ≡ b
unfolding second_in
second_eq a b c d e = sym (ap second_in e)

split_of_pair : (a b s : ℕ) → hangul_pair a b ≡ Some s → hangul_split s ≡ Some (a, b)
unfolding hangul_pair
split_of_pair a b s h =
    cond_both (is_among 0x1100 19 a && is_among 0x1161 21 b) _ _ (λ o. o ≡ Some s → hangul_split s ≡ Some (a, b))
    (λ first e.
    let pieces = and_parts (is_among 0x1100 19 a) (is_among 0x1161 21 b) first in
    let leading = among_bounds 0x1100 19 a pieces.0 in
    let vowel = among_bounds 0x1161 21 b pieces.1 in
    let value : s ≡ 0xAC00 + ((a - 0x1100) * 588 + (b - 0x1161) * 28) = cc in
    split_without_trailing s (omega arith) (omega arith) (omega arith) ∙ pair_eq _ _ _ _ (omega arith) (omega arith))
    (λ _ later.
    cond_both ((is_syllable a && (a - 0xAC00) % 28 == 0) && is_trailing_consonant b) _ _ (λ o. o ≡ Some s → hangul_split s ≡ Some (a, b))
    (λ second e.
    let pieces = and_parts (is_syllable a && (a - 0xAC00) % 28 == 0) (is_trailing_consonant b) second in
    let of_a = and_parts (is_syllable a) ((a - 0xAC00) % 28 == 0) pieces.0 in
    let syllable = among_bounds 0xAC00 11172 a of_a.0 in
    let bare : (a - 0xAC00) % 28 ≡ 0 = eqb-true _ 0 of_a.1 in
    let trailing = among_bounds 0x11A8 27 b pieces.1 in
    let value : s ≡ a + (b - 0x11A7) = cc in
    split_with_trailing s (omega arith) (omega arith) (omega arith) ∙ pair_eq _ _ _ _ (omega arith) (omega arith))
    (λ _ e. cc)
    later)
    h

pair_of_split : (a b s : ℕ) → hangul_split s ≡ Some (a, b) → hangul_pair a b ≡ Some s
unfolding hangul_split
pair_of_split a b s h =
    cond_both (is_syllable s) _ _ (λ o. o ≡ Some (a, b) → hangul_pair a b ≡ Some s)
    (λ yes e.
    let syllable = among_bounds 0xAC00 11172 s yes in
    cond_both ((s - 0xAC00) % 28 == 0) _ _ (λ p. Some p ≡ Some (a, b) → hangul_pair a b ≡ Some s)
    (λ none at.
    let bare : (s - 0xAC00) % 28 ≡ 0 = eqb-true _ 0 none in
    let leading : a ≡ 0x1100 + (s - 0xAC00) / 588 = first_eq _ _ _ _ at in
    let vowel : b ≡ 0x1161 + (s - 0xAC00) % 588 / 28 = second_eq _ _ _ _ at in
    pair_of_vowel a b (omega arith) (omega arith) (omega arith) (omega arith) ∙ ap Some (omega arith))
    (λ some at.
    let apart : (s - 0xAC00) % 28 ≢ 0 = grind (arith, common_steps) in
    let front : a ≡ s - (s - 0xAC00) % 28 = first_eq _ _ _ _ at in
    let trailing : b ≡ 0x11A7 + (s - 0xAC00) % 28 = second_eq _ _ _ _ at in
    pair_of_trailing a b (omega arith) (omega arith) (omega arith) (omega arith) (omega arith) ∙ ap Some (omega arith))
    e)
    (λ _ e. cc)
    h

pub hangul_pairs_are_splits : HangulPairsAreSplits
hangul_pairs_are_splits a b s = (split_of_pair a b s, pair_of_split a b s)

pub no_split_without_syllable : (u : ℕ) → is_syllable u ≡ false → hangul_split u ≡ None
unfolding hangul_split
no_split_without_syllable u h = cond-false _ _ _ h

-- The events of vowels of Thai and Lao that split.
use Rattle.std.proofs.Common.{ℕ, suc, ◌≡◌, ◌+◌, ◌-◌, ◌==◌, Bool, true, false, if◌then◌else◌, List, [], ◌∷◌, ◌++◌, length, take, drop, arith, refl, ap, sym, ◌∙◌}
use Rattle.std.specs.Prelude.{nat_le}
use Rattle.std.proofs.lemmas.List.{length-append, take-append-drop}
use Rattle.buffer_glyphs.specs.declared.cause.ShapeCause.TheVariants.{TooLong}
use Rattle.buffer_glyphs.specs.Items.{Item}
use Rattle.buffer_glyphs.specs.Levels.{InOutput}
use Rattle.buffer_glyphs.specs.Events.{MergeGrapheme, Move, Replace, StrictBreak}
use Rattle.buffer_stages.specs.Moves.{order_of_move}
use Rattle.buffer_parts.specs.Plainly.{ArePlainlyKept, AreSteady}
use Rattle.buffer_parts.specs.Lemmas.Plainly.{both_steady, plainly_in_turn, replacement_kept, steady_kept}
use Rattle.buffer_parts.specs.PlainStages.{KeepsPlainly}
use Rattle.buffer_parts.specs.Lemmas.PlainStages.{always_plainly, limited_plainly, then_plainly}
use Rattle.buffer_core.specs.Readings.{always}
use Rattle.buffer_core.specs.Sides.{zero_positions}
use Rattle.script_arabic.proofs.Plainly.{kept_between}
use Rattle.script_thai.specs.ThaiVowel.{count_above, split_events, events_of_character, events_of_vowel, is_sara_am, nikhahit, move_of_vowel, sara_aa, text_with_splits, vowel_rule, vowels_decomposed, vowels_split, with_character, with_vowel}
use Rattle.script_syllabic.specs.Graphemes.{merge_of, merges_by, with_graphemes_merged}
use Rattle.script_thai.proofs.Vowel.{vowel_long}

merge_steady : (at n : ℕ) → AreSteady (merge_of at n)
merge_steady at n = elim (n == 0) as (λ t. AreSteady (if t then [] else MergeGrapheme at (at + n) ∷ StrictBreak at (at + n) ∷ [])) [ true ↦ tt | false ↦ tt ]

merges_steady : (rule : List Item → ℕ) (at : ℕ) (xs : List Item) → AreSteady (merges_by rule at xs)
merges_steady rule at [] = tt
merges_steady rule at (x ∷ xs) = both_steady (merge_of at (rule (x ∷ xs))) (merges_by rule (at + 1) xs) (merge_steady at (rule (x ∷ xs))) (merges_steady rule (at + 1) xs)

-- merges of graphemes keep parts
pub merged_keeps_plainly : (rule : List Item → ℕ) → KeepsPlainly (always (with_graphemes_merged rule))
merged_keeps_plainly rule = always_plainly (with_graphemes_merged rule) (λ v level. steady_kept (merges_by rule 0 v.items) (length v.items) (merges_steady rule 0 v.items))

placing_steady : (at n : ℕ) → AreSteady (move_of_vowel at n)
placing_steady at n = elim (n == 0) as (λ t. AreSteady (if t then [] else Move InOutput (at - n) (order_of_move n 1) ∷ [])) [ true ↦ tt | false ↦ tt ]

vowel_kept : (out : List Item) (x : Item) (n : ℕ) → ArePlainlyKept (events_of_vowel (length out) (count_above out)) (length out + suc n) (length (with_vowel out x) + n)
vowel_kept out x n =
    let long = vowel_long out x in
    let left : length out + 2 + (length out + suc n - (length out + 1)) ≡ length (with_vowel out x) + n = omega (arith, long) in
    plainly_in_turn (Replace (length out) 1 2 ∷ []) (move_of_vowel (length out) (count_above out)) (length out + suc n) (length (with_vowel out x) + n) (length (with_vowel out x) + n)
    (replacement_kept (length out) 1 2 (length out + suc n) (length (with_vowel out x) + n) (omega arith) (omega arith) (omega arith) left)
    (steady_kept (move_of_vowel (length out) (count_above out)) (length (with_vowel out x) + n) (placing_steady (length out) (count_above out)))

character_kept : (out : List Item) (x : Item) (n : ℕ) → ArePlainlyKept (events_of_character out x) (length out + suc n) (length (with_character out x) + n)
character_kept out x n = by_test (is_sara_am x)
  where
    by_test : (t : Bool) → ArePlainlyKept (if t then events_of_vowel (length out) (count_above out) else []) (length out + suc n) (length (if t then with_vowel out x else out ++ x ∷ []) + n)
    by_test true = vowel_kept out x n
    by_test false =
        let long = length-append out (x ∷ []) in
        let same : length out + suc n ≡ length (out ++ x ∷ []) + n = omega (arith, long) in
        kept_between [] (length out + suc n) (length out + suc n) (length out + suc n) (length (out ++ x ∷ []) + n) refl same (steady_kept [] (length out + suc n) tt)

thai_kept : (out xs : List Item) → ArePlainlyKept (split_events out xs) (length out + length xs) (length (text_with_splits out xs))
thai_kept out [] = let same : length out ≡ length out + 0 = omega arith in kept_between [] (length out) (length out + 0) (length out) (length out) same refl (steady_kept [] (length out) tt)
thai_kept out (x ∷ xs) =
    plainly_in_turn (events_of_character out x) (split_events (with_character out x) xs) (length out + suc (length xs)) (length (with_character out x) + length xs) (length (text_with_splits (with_character out x) xs))
    (character_kept out x (length xs)) (thai_kept (with_character out x) xs)

split_keeps_plainly : KeepsPlainly vowels_split
split_keeps_plainly v r level e =
    let xs = v.items in
    let ys = text_with_splits [] xs in
    let none : 0 + length xs ≡ length xs = omega arith in
    limited_plainly (nat_le (length ys) v.max_len) TooLong (length xs) (record { view = record v { items = ys; positions = zero_positions (length ys) }; events = λ level. split_events [] xs }) r level
    (kept_between (split_events [] xs) (0 + length xs) (length xs) (length ys) (length ys) none refl (thai_kept [] xs)) e

pub thai_keeps_plainly : KeepsPlainly vowels_decomposed
thai_keeps_plainly = then_plainly (always (with_graphemes_merged vowel_rule)) vowels_split (merged_keeps_plainly vowel_rule) split_keeps_plainly

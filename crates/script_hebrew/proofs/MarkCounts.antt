-- The order of Hebrew marks keeps the length of a run, and its events are steady.
use Rattle.std.proofs.Common.{ℕ, suc, ◌≡◌, ◌≤◌, ◌+◌, Bool, true, false, if◌then◌else◌, List, [], ◌∷◌, Option, None, Some, length, refl, arith}
use Rattle.std.specs.Prelude.{option_map}
use Rattle.buffer_glyphs.specs.Items.{Item}
use Rattle.buffer_parts.specs.Plainly.{AreSteady}
use Rattle.buffer_stages.specs.Lemmas.Moves.{moved_length}
use Rattle.script_hebrew.specs.Hebrew.{begins_with_three, first_three}
use Rattle.script_hebrew.specs.MarkOrder.{with_marks_swapped, HebrewOrderIsSteady, HebrewOrderKeepsCount}

pub three_there : (xs : List Item) → begins_with_three xs ≡ true → 3 ≤ length xs
three_there [] e = cc
three_there (x ∷ []) e = cc
three_there (x ∷ y ∷ []) e = cc
three_there (x ∷ y ∷ z ∷ xs) e = omega arith

pub three_within : (xs : List Item) (n : ℕ) → first_three xs ≡ Some n → n + 3 ≤ length xs
three_within [] n e = cc
three_within (x ∷ xs) n e = by_test (begins_with_three (x ∷ xs)) refl (three_within xs) e
  where
    by_rest : (a : Option ℕ) → first_three xs ≡ a → ((m : ℕ) → first_three xs ≡ Some m → m + 3 ≤ length xs) → option_map (λ m. m + 1) a ≡ Some n → n + 3 ≤ suc (length xs)
    by_rest None f later g = cc
    by_rest (Some m) f later g = (let le = later m f in let is : m + 1 ≡ n = cc in omega (arith, le, is))

    by_test : (t : Bool) → begins_with_three (x ∷ xs) ≡ t → ((m : ℕ) → first_three xs ≡ Some m → m + 3 ≤ length xs) → (if t then Some 0 else option_map (λ m. m + 1) (first_three xs)) ≡ Some n → n + 3 ≤ suc (length xs)
    by_test true f later g = (let le = three_there (x ∷ xs) f in let is : 0 ≡ n = cc in omega (arith, le, is))
    by_test false f later g = by_rest (first_three xs) refl later g

pub hebrew_length : HebrewOrderKeepsCount
hebrew_length run = by_index (first_three run) refl
  where
    by_index : (a : Option ℕ) → first_three run ≡ a → length (with_marks_swapped a run).items ≡ length run
    by_index None e = refl
    by_index (Some n) e = (let le = three_within run n e in moved_length (n + 1) 1 1 run (omega (arith, le)))

pub hebrew_steady : HebrewOrderIsSteady
hebrew_steady run = by_index (first_three run)
  where
    by_index : (a : Option ℕ) → AreSteady (with_marks_swapped a run).events
    by_index None = tt
    by_index (Some n) = tt

-- A number of a list in order stands between the first and the last.
use Rattle.std.proofs.Common.{ℕ, ◌≡◌, ◌≤◌, inl, inr, Bool, true, false, min, max, List, [], ◌∷◌, arith, subst, sym}
use Rattle.std.proofs.lemmas.Bool.Decides.{nat_tests}
use Rattle.std.proofs.lemmas.Grind.{common_steps}
use Rattle.buffer_glyphs.specs.Parts.{united_number, last_from}
use Rattle.buffer_glyphs.specs.Order.{AllFrom, IsChain, IsInOrder}
use Rattle.buffer_glyphs.specs.Lemmas.Parts.{Stands, stands_self}
use Rattle.buffer_glyphs.specs.Lemmas.Numbers.{Has, has_cases, has_last_from}

-- a number after another
pub from_has : (R : ℕ → ℕ → Type 0) (m n : ℕ) (ns : List ℕ) → AllFrom R m ns → Has ns n → R m n
from_has R m n [] h has = cc
from_has R m n (k ∷ ks) h has = elim (has_cases k n ks has) [ inl e ↦ subst (R m) e h.0 | inr later ↦ from_has R m n ks h.1 later ]

-- it is the first, or after it
pub from_first : (R : ℕ → ℕ → Type 0) → ((x : ℕ) → R x x) → (m n : ℕ) (ns : List ℕ) → AllFrom R m ns → Has (m ∷ ns) n → R m n
from_first R same m n ns h has = elim (has_cases m n ns has) [ inl e ↦ subst (R m) e (same m) | inr later ↦ from_has R m n ns h later ]

-- it is the last, or before it
pub to_last : (R : ℕ → ℕ → Type 0) → ((x : ℕ) → R x x) → (m n : ℕ) (ns : List ℕ) → IsChain R (m ∷ ns) → Has (m ∷ ns) n → R n (last_from m ns)
to_last R same m n [] h has = elim (has_cases m n [] has) [ inl e ↦ subst (R n) (sym e) (same n) | inr later ↦ cc ]
to_last R same m n (k ∷ ks) h has = elim (has_cases m n (k ∷ ks) has) [
  | inl e ↦ let P : ℕ → Type 0 = λ j. R j (last_from k ks) in subst P e (from_has R m (last_from k ks) (k ∷ ks) h.0 (has_last_from k ks))
  | inr later ↦ to_last R same k n ks h.1 later
]

united_rising : (x n y : ℕ) → x ≤ n → n ≤ y → united_number (min x y) (max x y) n ≡ min x y
united_rising x n y h k = grind (arith, nat_tests, common_steps)

united_falling : (x n y : ℕ) → n ≤ x → y ≤ n → united_number (min x y) (max x y) n ≡ min x y
united_falling x n y h k = grind (arith, nat_tests, common_steps)

-- in order, a join makes all numbers of its range one
pub joined_alike : (falls : Bool) (x n : ℕ) (xs : List ℕ) → IsInOrder falls (x ∷ xs) → Has (x ∷ xs) n → united_number (min x (last_from x xs)) (max x (last_from x xs)) n ≡ min x (last_from x xs)
joined_alike false x n xs h has = united_rising x n (last_from x xs) (from_first (Stands false) (stands_self false) x n xs h.0 has) (to_last (Stands false) (stands_self false) x n xs h has)
joined_alike true x n xs h has = united_falling x n (last_from x xs) (from_first (Stands true) (stands_self true) x n xs h.0 has) (to_last (Stands true) (stands_self true) x n xs h has)

-- The order of combining marks by their classes (UAX 15, canonical ordering, D108 and D109).
use Rattle.std.specs.Prelude.{ℕ, ◌≡◌, ◌↔◌, ◌==◌, ◌||◌, if◌then◌else◌, List, [], ◌∷◌, ◌++◌, filter}
use Rattle.buffer_rows.specs.KeyOrder.{key_order}

-- a run permuted so that classes never decrease and elements of one class keep their order
unfoldable pub run_order : {X : Type 0} → (X → ℕ) → List X → List X
run_order class run = key_order class run

-- the class order of a list after a nonzero run that was read already
abbrev pub order_after : {X : Type 0} → (X → ℕ) → List X → List X → List X
order_after class run [] = run_order class run
order_after class run (x ∷ xs) = if class x == 0 then run_order class run ++ x ∷ order_after class [] xs else order_after class (run ++ x ∷ []) xs

-- each maximal run of nonzero class so permuted
abbrev pub class_order : {X : Type 0} → (X → ℕ) → List X → List X
class_order class xs = order_after class [] xs

-- the starters and the elements of one class, in order
abbrev pub beside_starters : {X : Type 0} → (X → ℕ) → ℕ → List X → List X
beside_starters class c xs = filter (λ x. class x == 0 || class x == c) xs

-- two texts have the same class order exactly where, for each class, their starters and elements of that class are the
-- same
abbrev pub OrderIsByClasses : Type 0
OrderIsByClasses = (class : ℕ → ℕ) (xs ys : List ℕ) → (class_order class xs ≡ class_order class ys) ↔ ((c : ℕ) → beside_starters class c xs ≡ beside_starters class c ys)

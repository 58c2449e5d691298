-- Laws of the order by a key.
use Rattle.std.specs.Prelude.{ℕ, ◌≡◌, List, map}
use Rattle.buffer_rows.specs.KeyOrder.{of_key, key_order}

-- the elements of each key are those of the list, in the order of the list
abbrev pub KeepsEachKey : Type 0
KeepsEachKey = (key : ℕ → ℕ) (c : ℕ) (xs : List ℕ) → of_key key c (key_order key xs) ≡ of_key key c xs

-- a change of each element, and then the order by a key, is the order by the changed elements' keys, and then the
-- change
abbrev pub OrderCommutesWithMap : Type 0
OrderCommutesWithMap = (key f : ℕ → ℕ) (xs : List ℕ) → key_order key (map f xs) ≡ map f (key_order (λ x. key (f x)) xs)

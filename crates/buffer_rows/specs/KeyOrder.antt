-- The order of elements by a key.
use Rattle.std.specs.Prelude.{ℕ, zero, suc, ◌==◌, ◌+◌, List, [], ◌∷◌, ◌++◌, filter, max}

-- the elements of one key, in order
abbrev pub of_key : {X : Type 0} → (X → ℕ) → ℕ → List X → List X
of_key key c xs = filter (λ x. key x == c) xs

-- the elements of a key below n, key by key
abbrev pub by_key : {X : Type 0} → (X → ℕ) → ℕ → List X → List X
by_key key zero xs = []
by_key key (suc n) xs = by_key key n xs ++ of_key key n xs

-- one more than the greatest key
abbrev pub key_bound : {X : Type 0} → (X → ℕ) → List X → ℕ
key_bound key [] = 0
key_bound key (x ∷ xs) = max (key x + 1) (key_bound key xs)

-- a list permuted so that keys never decrease and elements of one key keep their order
abbrev pub key_order : {X : Type 0} → (X → ℕ) → List X → List X
key_order key xs = by_key key (key_bound key xs) xs

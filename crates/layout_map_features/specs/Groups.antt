-- Finite maps made of lists: one value for the elements of each key.
use Rattle.std.specs.Prelude.{ℕ, zero, suc, List, [], ◌∷◌, ◌++◌, map}
use Rattle.buffer_rows.specs.KeyOrder.{of_key, key_bound}

-- the entry of a key, where there are elements of it: the value of the first and the later ones
abbrev pub group_entry : {X Y : Type 0} → (X → List X → Y) → ℕ → List X → List (ℕ × Y)
group_entry together k [] = []
group_entry together k (first ∷ later) = (k, together first later) ∷ []

-- the entries of the keys below n, by rising keys; the elements of a key keep their order
abbrev pub entries_below : {X Y : Type 0} → (X → ℕ) → (X → List X → Y) → ℕ → List X → List (ℕ × Y)
entries_below key together zero xs = []
entries_below key together (suc n) xs = entries_below key together n xs ++ group_entry together n (of_key key n xs)

-- the values of the elements of each key below n, by rising keys
abbrev pub groups_below : {X Y : Type 0} → (X → ℕ) → (X → List X → Y) → ℕ → List X → List Y
groups_below key together n xs = map (λ e. e.1) (entries_below key together n xs)

-- the values of the elements of each key, by rising keys
abbrev pub groups : {X Y : Type 0} → (X → ℕ) → (X → List X → Y) → List X → List Y
groups key together xs = groups_below key together (key_bound key xs) xs

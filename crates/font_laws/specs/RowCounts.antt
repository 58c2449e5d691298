-- How many rows lists have.
use Rattle.std.specs.Prelude.{ℕ, ◌+◌, List, [], ◌∷◌, Option, Some, None}

-- the rows of a list: each of its elements, and those of the element's own lists
abbrev pub total_row_count : {A : Type 0} → (A → ℕ) → List A → ℕ
total_row_count count [] = 0
total_row_count count (a ∷ rest) = 1 + count a + total_row_count count rest

-- the rows of a value, none without one
abbrev pub optional_row_count : {A : Type 0} → (A → ℕ) → Option A → ℕ
optional_row_count count None = 0
optional_row_count count (Some a) = count a

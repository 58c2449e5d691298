-- The first and the last index at which the rest of a list passes a test.
use Rattle.std.specs.Prelude.{ℕ, ◌+◌, Bool, false, if◌then◌else◌, List, [], ◌∷◌, Option, None, Some}
use Rattle.std.specs.Option.{option_or}

-- the first index at which the rest of a list passes a test, where the list itself begins at an index
abbrev pub first_at : {X : Type 0} → (List X → Bool) → ℕ → List X → Option ℕ
first_at test i [] = None
first_at test i (x ∷ xs) = if test (x ∷ xs) then Some i else first_at test (i + 1) xs

-- the last index at which the rest of a list passes a test, where the list itself begins at an index
abbrev pub last_at : {X : Type 0} → (List X → Bool) → ℕ → List X → Option ℕ
last_at test i [] = None
last_at test i (x ∷ xs) = option_or (last_at test (i + 1) xs) (if test (x ∷ xs) then Some i else None)

-- the first element of a list passes a test
abbrev pub begins_with : {X : Type 0} → (X → Bool) → List X → Bool
begins_with test [] = false
begins_with test (x ∷ xs) = test x

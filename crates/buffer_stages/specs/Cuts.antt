-- Lists cut into syllables, by a function that says where each ends.
use Rattle.std.specs.Prelude.{ℕ, zero, suc, ◌<◌, ◌≤◌, ◌≡◌, nat_lt, if◌then◌else◌, List, [], ◌∷◌, length, map, slice_range}
use Rattle.std.specs.List.{flat_map}

-- a syllable: the indices from its start up to before its end, and its kind
pub record Syllable : Type 0 where
  pub start : ℕ
  pub end : ℕ
  pub kind : ℕ

-- a syllable that begins inside a list ends after its start, and inside the list
pub record EndsInside (next : ℕ → ℕ × ℕ) (count : ℕ) : Type 0 where
  pub after : (start : ℕ) → start < count → start < (next start).0
  pub inside : (start : ℕ) → start < count → (next start).0 ≤ count

-- the syllable at an index: the function gives its end and its kind
abbrev pub syllable_from : (ℕ → ℕ × ℕ) → ℕ → Syllable
syllable_from next start = record { start = start; end = (next start).0; kind = (next start).1 }

-- at most n syllables from an index on, each of which begins where the one before ends
abbrev pub syllables_from : (ℕ → ℕ × ℕ) → ℕ → ℕ → ℕ → List Syllable
syllables_from next count zero start = []
syllables_from next count (suc most) start =
    if nat_lt start count then syllable_from next start ∷ syllables_from next count most (next start).0 else []

-- the syllables of a list of n elements: at most as many as there are elements
abbrev pub syllables : (ℕ → ℕ × ℕ) → ℕ → List Syllable
syllables next count = syllables_from next count count 0

-- the elements of a syllable
abbrev pub elements_of : {X : Type 0} → List X → Syllable → List X
elements_of xs s = slice_range xs s.start s.end

-- a list cut into its syllables
abbrev pub syllable_pieces : {X : Type 0} → List Syllable → List X → List (List X)
syllable_pieces ss xs = map (elements_of xs) ss

-- the syllables of a list, concatenated, are the list
abbrev pub CutsJoin : Type 0
CutsJoin = (next : ℕ → ℕ × ℕ) (xs : List ℕ) → EndsInside next (length xs) → flat_map (λ ys. ys) (syllable_pieces (syllables next (length xs)) xs) ≡ xs

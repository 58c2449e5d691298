-- The slices of a text: the intervals between neighbouring cluster numbers of a result.
use Rattle.std.specs.Prelude.{ℕ, ◌≡◌, ◌≤◌, ◌<◌, ◌==◌, ◌⊎◌, nat_lt, if◌then◌else◌, List, [], ◌∷◌, ◌++◌, fold, slice_range}

-- a number inserted into rising numbers, unless it is among them
abbrev pub with_border : List ℕ → ℕ → List ℕ
with_border [] n = n ∷ []
with_border (m ∷ ms) n = if n == m then m ∷ ms else if nat_lt n m then n ∷ m ∷ ms else m ∷ with_border ms n

-- the numbers in rising order, each once
abbrev pub borders : List ℕ → List ℕ
borders ns = fold with_border [] ns

-- the first number of a list, or `end` where it is empty
abbrev pub first_or : ℕ → List ℕ → ℕ
first_or end [] = end
first_or end (n ∷ ns) = n

-- the intervals from each number to the next, and from the last to `end`; each is without its upper end
abbrev pub intervals : List ℕ → ℕ → List (ℕ × ℕ)
intervals [] end = []
intervals (n ∷ ns) end = (n, first_or end ns) ∷ intervals ns end

-- the slices by the cluster numbers `ns` of a text of length `end`
abbrev pub slices : List ℕ → ℕ → List (ℕ × ℕ)
slices ns end = intervals (borders ns) end

-- slices that cover everything from `from` to `to`: each begins where the previous one ends, and none is empty
abbrev pub AreJoined : ℕ → ℕ → List (ℕ × ℕ) → Type 0
AreJoined from to [] = from ≡ to
AreJoined from to (s ∷ ss) = (s.0 ≡ from) × (s.0 < s.1) × AreJoined s.1 to ss

-- the slices of a text, concatenated
abbrev pub text_of_slices : {X : Type 0} → List X → List (ℕ × ℕ) → List X
text_of_slices text [] = []
text_of_slices text (s ∷ ss) = slice_range text s.0 s.1 ++ text_of_slices text ss

-- an index is in a slice
abbrev pub IsIn : ℕ × ℕ → ℕ → Type 0
IsIn s n = (s.0 ≤ n) × (n < s.1)

-- two indices are in one slice
abbrev pub ShareSlice : List (ℕ × ℕ) → ℕ → ℕ → Type 0
ShareSlice [] m n = ⊥
ShareSlice (s ∷ ss) m n = (IsIn s m × IsIn s n) ⊎ ShareSlice ss m n

-- Characters decomposed as far as possible (UAX 15, full canonical decomposition, D68).
use Rattle.std.specs.Prelude.{ℕ, zero, suc, ◌≡◌, ◌==◌, Bool, true, false, if◌then◌else◌, List, [], ◌∷◌, ◌++◌, Option, Some, None, is_none}

-- the decomposition of a character into a first half and a second one, which is 0 where it is absent
abbrev pub Splits : Type 0
Splits = ℕ → Option (ℕ × ℕ)

-- the second half after the expansion of the first
abbrev pub with_second_piece : ℕ → List ℕ → List ℕ
with_second_piece b front = if b == 0 then front else front ++ b ∷ []

-- the expansion of a character by its two halves
abbrev pub by_halves : (ℕ → List ℕ) → ℕ → Option (ℕ × ℕ) → List ℕ
by_halves expand u None = u ∷ []
by_halves expand u (Some (a, b)) = with_second_piece b (expand a)

-- the expansion of the first half, then the second half as it is; at most `depth` decompositions
unfoldable pub expansion_by_splits : Splits → ℕ → ℕ → List ℕ
expansion_by_splits splits zero u = u ∷ []
expansion_by_splits splits (suc depth) u = by_halves (expansion_by_splits splits depth) u (splits u)

-- whether a chain ends by its first half
abbrev pub ends_by : (ℕ → Bool) → Option (ℕ × ℕ) → Bool
ends_by ends None = true
ends_by ends (Some (a, b)) = ends a

-- whether the chain of first halves ends within `depth` decompositions
unfoldable pub ends_within : Splits → ℕ → ℕ → Bool
ends_within splits zero u = is_none (splits u)
ends_within splits (suc depth) u = ends_by (ends_within splits depth) (splits u)

-- each chain of first halves ends so
abbrev pub EndWithin : Splits → ℕ → Type 0
EndWithin splits depth = (u : ℕ) → ends_within splits depth u ≡ true

-- a chain of first halves does not end so
abbrev pub HasDeepChain : Splits → ℕ → Type 0
HasDeepChain splits depth = (u : ℕ) × (ends_within splits depth u ≡ false)

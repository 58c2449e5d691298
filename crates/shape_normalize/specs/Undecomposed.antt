-- Characters that are known to have no decomposition.
use Rattle.std.specs.Prelude.{ℕ, ◌≡◌, List, Option, Some, None}
use Rattle.std.specs.List.{All}
use Rattle.buffer_properties.specs.Normalizer.{Normalizer}

-- the character of a row, if it has one, has no decomposition
abbrev pub IsUndecomposed : Normalizer → Option ℕ → Type 0
IsUndecomposed c row = (u : ℕ) → row ≡ Some u → c.splits u ≡ None

-- the characters of all rows have no decomposition
pub record AreUndecomposed (c : Normalizer) (rows : List (Option ℕ)) : Type 0 where
  pub each : All (IsUndecomposed c) rows

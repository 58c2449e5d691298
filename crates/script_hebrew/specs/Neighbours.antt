-- The index of three neighbours.
use Rattle.std.specs.Prelude.{ℕ, ◌+◌, ◌≤◌, Option, None, Some}

-- three elements from an index on are within a length, if there is an index
abbrev pub IsThreeWithin : ℕ → Option ℕ → ℕ → Type 0
IsThreeWithin start None count = Unit {0}
IsThreeWithin start (Some n) count = start + (n + 3) ≤ count

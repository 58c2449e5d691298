-- The indices of a match in a list.
use Rattle.std.specs.Prelude.{ℕ, ◌+◌, ◌≤◌, ◌<◌, List, [], ◌∷◌}

-- indices rise, from one on and each below another
abbrev pub AreRising : ℕ → ℕ → List ℕ → Type 0
AreRising low high [] = Unit
AreRising low high (p ∷ ps) = (low ≤ p) × (p < high) × AreRising (p + 1) high ps

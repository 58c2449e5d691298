-- The indices and the end of a match once some records were applied.
use Rattle.std.specs.Prelude.{ℕ, ◌≤◌, ◌+◌, ◌-◌, List}
use Rattle.layout_contexts.specs.MatchIndices.{AreRising}

-- a list of `before` items became one of `after` items: the indices still rise inside it, the end of the match is no
-- further from the end of the list, and neither is before where they began
pub record StaysInside (before after : ℕ) (indices settled : List ℕ) (end at : ℕ) : Type 0 where
  pub within : end ≤ before → at ≤ after
  pub fewer : after - at ≤ before - end
  pub rising : (low : ℕ) → low ≤ before → AreRising low (before + 1) indices → AreRising low (after + 1) settled
  pub from : (low : ℕ) → low ≤ before → AreRising low (before + 1) indices → low ≤ after
  pub ends : (low : ℕ) → low ≤ before → AreRising low (before + 1) indices → low ≤ end → low ≤ at

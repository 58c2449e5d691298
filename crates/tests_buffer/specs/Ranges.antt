-- The ranges of calls.
use Rattle.std.specs.Prelude.{ℕ, ◌≤◌, ◌+◌, length, Option}
use Rattle.buffer_core.specs.Sides.{Sides}
use Rattle.buffer_core.specs.Marking.{start_or, end_or}

-- a range begins in the output and ends in the input
pub record Reaches (start end : Option ℕ) (s : Sides) : Type 0 where
  pub begins : start_or start ≤ length s.behind
  pub unread : s.read ≤ end_or end s
  pub within : end_or end s ≤ s.read + length s.ahead

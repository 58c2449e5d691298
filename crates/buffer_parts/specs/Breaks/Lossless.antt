-- Events by which no cluster that stays loses its flags.
use Rattle.std.specs.Prelude.{ℕ, ◌≤◌, ◌<◌, ◌+◌, IsTrue, List, [], ◌∷◌, length}
use Rattle.buffer_glyphs.specs.Order.{has_number}
use Rattle.buffer_glyphs.specs.Events.{Event, Merge, MergeGrapheme, Replace, Circle, Delete, Move, Arrange, Sort, Reverse, Break, Concat, Tatweel, StrictBreak, Spread, Reset}
use Rattle.buffer_parts.specs.Counts.{count_after_event}

-- an order permutes the elements of a list of n from an index on: the list has as many, and the order has each of their
-- indices, which count from there
pub record IsPermuting (from : ℕ) (order : List ℕ) (n : ℕ) : Type 0 where
  pub within : from + length order ≤ n
  pub each : (i : ℕ) → i < length order → IsTrue (has_number order i)

-- an event of n glyphs clears no flags, and its order permutes: so where PRODUCE_SAFE_BREAKS is requested, a cluster that
-- stays keeps its flag
abbrev pub IsLossless : Event → ℕ → Type 0
IsLossless Reset n = ⊥
IsLossless (Move how from order) n = IsPermuting from order n
IsLossless (Arrange from order) n = IsPermuting from order n
IsLossless (Sort from order) n = IsPermuting from order n
IsLossless (Merge how from to) n = Unit {0}
IsLossless (MergeGrapheme from to) n = Unit {0}
IsLossless (Replace at taken given) n = Unit {0}
IsLossless (Circle after beside like) n = Unit {0}
IsLossless (Delete at) n = Unit {0}
IsLossless Reverse n = Unit {0}
IsLossless (Break from to) n = Unit {0}
IsLossless (Concat from to) n = Unit {0}
IsLossless (Tatweel from to) n = Unit {0}
IsLossless (StrictBreak from to) n = Unit {0}
IsLossless Spread n = Unit {0}

-- each of some events is lossless for as many glyphs as those before it leave of n
abbrev pub AreLossless : List Event → ℕ → Type 0
AreLossless [] n = Unit {0}
AreLossless (e ∷ es) n = IsLossless e n × AreLossless es (count_after_event n e)

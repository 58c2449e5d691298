-- Events on one side of a cut.
use Rattle.std.specs.Prelude.{ℕ, ◌≤◌, ◌<◌, ◌+◌, ◌⊎◌, IsTrue, List, [], ◌∷◌, length}
use Rattle.buffer_glyphs.specs.Order.{has_number}
use Rattle.buffer_glyphs.specs.Origins.{Origin, numbers}
use Rattle.buffer_glyphs.specs.Events.{Event, Merge, MergeGrapheme, Replace, Circle, Delete, Move, Arrange, Sort, Reverse, Break, Concat, Tatweel, StrictBreak, Spread, Reset}
use Rattle.buffer_parts.specs.Counts.{count_after_event}

-- the indices of an event are those of n glyphs, and it changes no whole list
abbrev pub IsBounded : Event → ℕ → Type 0
IsBounded (Merge how from to) n = (from ≤ n) × (to ≤ n)
IsBounded (MergeGrapheme from to) n = (from ≤ n) × (to ≤ n)
IsBounded (Replace at taken given) n = (at < n) × (at + taken ≤ n)
IsBounded (Circle after beside like) n = (beside < n) × (like < n)
IsBounded (Delete at) n = at < n
IsBounded (Move how from order) n = from + length order ≤ n
IsBounded (Arrange from order) n = from + length order ≤ n
IsBounded (Sort from order) n = from + length order ≤ n
IsBounded (Break from to) n = (from ≤ n) × (to ≤ n)
IsBounded (Concat from to) n = (from ≤ n) × (to ≤ n)
IsBounded (Tatweel from to) n = (from ≤ n) × (to ≤ n)
IsBounded (StrictBreak from to) n = (from ≤ n) × (to ≤ n)
IsBounded Reverse n = ⊥
IsBounded Spread n = ⊥
IsBounded Reset n = ⊥

-- the indices of each event are those of as many glyphs as the events before it leave of n
abbrev pub AreBounded : List Event → ℕ → Type 0
AreBounded [] n = Unit {0}
AreBounded (e ∷ es) n = IsBounded e n × AreBounded es (count_after_event n e)

-- each cluster of the origins is below c
abbrev pub AreBelow : ℕ → List Origin → Type 0
AreBelow c os = (n : ℕ) → IsTrue (has_number (numbers os) n) → n < c

-- each cluster of the origins is c, or above it
abbrev pub AreAbove : ℕ → List Origin → Type 0
AreAbove c os = (n : ℕ) → IsTrue (has_number (numbers os) n) → c ≤ n

-- two lists of origins are cut at c: one has the clusters below c, the other c and those above it
abbrev pub AreCutAt : ℕ → List Origin → List Origin → Type 0
AreCutAt c os qs = (AreBelow c os × AreAbove c qs) ⊎ (AreAbove c os × AreBelow c qs)

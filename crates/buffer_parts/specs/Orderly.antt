-- Events that keep clusters in order, by the clusters that they meet.
use Rattle.std.specs.Prelude.{ℕ, ◌≡◌, ◌+◌, ◌==◌, Bool, true, List, [], ◌∷◌, length}
use Rattle.std.specs.List.{list_all}
use Rattle.buffer_glyphs.specs.declared.level.BufferClusterLevel.{BufferClusterLevel}
use Rattle.buffer_glyphs.specs.Parts.{range_of}
use Rattle.buffer_glyphs.specs.Origins.{Origin, Asks, numbers}
use Rattle.buffer_glyphs.specs.Events.{Event, Merge, MergeGrapheme, Replace, Circle, Delete, Move, Arrange, Sort, Reverse, Break, Concat, Tatweel, StrictBreak, Spread, Reset, StaysInSpans, origins_after_event}

-- whether all numbers of a list are the same
abbrev pub are_one : List ℕ → Bool
are_one [] = true
are_one (n ∷ ns) = list_all (λ m. m == n) ns

-- an event keeps these clusters in order: it permutes without a merge only glyphs of one cluster, and a sort permutes only within the spans that it merges
abbrev pub IsOrderlyAt : Event → List ℕ → Type 0
IsOrderlyAt (Arrange from order) ns = are_one (range_of from (from + length order) ns) ≡ true
IsOrderlyAt (Sort from order) ns = StaysInSpans order
IsOrderlyAt (Merge how from to) ns = Unit {0}
IsOrderlyAt (MergeGrapheme from to) ns = Unit {0}
IsOrderlyAt (Replace at taken given) ns = Unit {0}
IsOrderlyAt (Circle after beside like) ns = Unit {0}
IsOrderlyAt (Delete at) ns = Unit {0}
IsOrderlyAt (Move how from order) ns = Unit {0}
IsOrderlyAt Reverse ns = Unit {0}
IsOrderlyAt (Break from to) ns = Unit {0}
IsOrderlyAt (Concat from to) ns = Unit {0}
IsOrderlyAt (Tatweel from to) ns = Unit {0}
IsOrderlyAt (StrictBreak from to) ns = Unit {0}
IsOrderlyAt Spread ns = Unit {0}
IsOrderlyAt Reset ns = Unit {0}

-- each event keeps in order the clusters that the events before it left
abbrev pub IsOrderly : Asks → BufferClusterLevel → List Event → List Origin → Type 0
IsOrderly asks level [] os = Unit {0}
IsOrderly asks level (e ∷ es) os = IsOrderlyAt e (numbers os) × IsOrderly asks level es (origins_after_event asks level os e)

-- Events that bind the items of a fragment to those beside it.
use Rattle.std.specs.Prelude.{ℕ, ◌≡◌, ◌≤◌, ◌<◌, ◌+◌, ◌⊎◌, List, [], ◌∷◌}
use Rattle.buffer_glyphs.specs.Levels.{InList, InOutput}
use Rattle.buffer_glyphs.specs.Events.{Event, Merge, MergeGrapheme, Replace, Circle, Delete, Move, Arrange, Sort, Reverse, Break, Concat, Tatweel, StrictBreak, Spread, Reset}
use Rattle.buffer_glyphs.specs.Rewriting.{shifted_event}
use Rattle.buffer_parts.specs.Counts.{count_after_event}
use Rattle.buffer_parts.specs.Breaks.Sides.{IsBounded}

-- an event of n items binds items on both sides of an index: it flags a range of them as unsafe to break, or unites it
abbrev pub BindsAt : ℕ → ℕ → Event → Type 0
BindsAt at n (Break from to) = (from < at) × (at < to) × (to ≤ n)
BindsAt at n (StrictBreak from to) = (from < at) × (at < to) × (to ≤ n)
BindsAt at n (Merge InList from to) = (from < at) × (at < to) × (to ≤ n)
BindsAt at n (Merge InOutput from to) = ⊥
BindsAt at n (MergeGrapheme from to) = ⊥
BindsAt at n (Replace i taken given) = ⊥
BindsAt at n (Circle after beside like) = ⊥
BindsAt at n (Delete i) = ⊥
BindsAt at n (Move how from order) = ⊥
BindsAt at n (Arrange from order) = ⊥
BindsAt at n (Sort from order) = ⊥
BindsAt at n Reverse = ⊥
BindsAt at n (Concat from to) = ⊥
BindsAt at n (Tatweel from to) = ⊥
BindsAt at n Spread = ⊥
BindsAt at n Reset = ⊥

-- an event of a text binds the n items of a fragment to those before it, of which there are `left`, or to the `right`
-- items after it
abbrev pub BindsOutside : ℕ → ℕ → ℕ → Event → Type 0
BindsOutside left n right e = BindsAt left (left + n + right) e ⊎ BindsAt (left + n) (left + n + right) e

-- among events, those before it inside the fragment, one binds the fragment to what is outside
abbrev pub BindOutside : ℕ → ℕ → ℕ → List Event → Type 0
BindOutside left n right [] = ⊥
BindOutside left n right (e ∷ es) = BindsOutside left n right e ⊎ ((b : Event) × (e ≡ shifted_event left b) × IsBounded b n × BindOutside left (count_after_event n b) right es)

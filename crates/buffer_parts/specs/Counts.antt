-- How many glyphs events leave, and events that drop no part.
use Rattle.std.specs.Prelude.{ℕ, ◌<◌, ◌+◌, ◌-◌, ◌==◌, nat_lt, min, if◌then◌else◌, List, [], ◌∷◌, fold}
use Rattle.buffer_glyphs.specs.Events.{Event, Merge, MergeGrapheme, Replace, Circle, Delete, Move, Arrange, Sort, Reverse, Break, Concat, Tatweel, StrictBreak, Spread, Reset}

-- how many glyphs an event leaves of n
abbrev pub count_after_event : ℕ → Event → ℕ
count_after_event n (Merge how from to) = n
count_after_event n (MergeGrapheme from to) = n
count_after_event n (Replace at taken given) = min at n + (if n == 0 then 0 else given) + (n - (at + taken))
count_after_event n (Circle after beside like) = if nat_lt beside n then n + 1 else n
count_after_event n (Delete at) = if nat_lt at n then n - 1 else n
count_after_event n (Move how from order) = n
count_after_event n (Arrange from order) = n
count_after_event n (Sort from order) = n
count_after_event n Reverse = n
count_after_event n (Break from to) = n
count_after_event n (Concat from to) = n
count_after_event n (Tatweel from to) = n
count_after_event n (StrictBreak from to) = n
count_after_event n Spread = n
count_after_event n Reset = n

-- how many glyphs a list of events leaves of n
abbrev pub count_after : List Event → ℕ → ℕ
count_after es n = fold count_after_event n es

-- each replacement gives at least one glyph
abbrev pub AreGiving : List Event → Type 0
AreGiving [] = Unit {0}
AreGiving (Replace at taken given ∷ es) = (0 < given) × AreGiving es
AreGiving (Merge how from to ∷ es) = AreGiving es
AreGiving (MergeGrapheme from to ∷ es) = AreGiving es
AreGiving (Circle after beside like ∷ es) = AreGiving es
AreGiving (Delete at ∷ es) = AreGiving es
AreGiving (Move how from order ∷ es) = AreGiving es
AreGiving (Arrange from order ∷ es) = AreGiving es
AreGiving (Sort from order ∷ es) = AreGiving es
AreGiving (Reverse ∷ es) = AreGiving es
AreGiving (Break from to ∷ es) = AreGiving es
AreGiving (Concat from to ∷ es) = AreGiving es
AreGiving (Tatweel from to ∷ es) = AreGiving es
AreGiving (StrictBreak from to ∷ es) = AreGiving es
AreGiving (Spread ∷ es) = AreGiving es
AreGiving (Reset ∷ es) = AreGiving es

-- the components of a ligature, at indices from `at` on, are deleted one after another; `before` of them were deleted already
abbrev pub ligature_deletions : ℕ → ℕ → List ℕ → List Event
ligature_deletions at before [] = []
ligature_deletions at before (i ∷ places) = Replace (at + i - before) 1 0 ∷ ligature_deletions at (before + 1) places

-- indices that rise strictly, all greater than `low` and less than `end`
abbrev pub AreBetween : ℕ → ℕ → List ℕ → Type 0
AreBetween low end [] = Unit {0}
AreBetween low end (i ∷ places) = (low < i) × (i < end) × AreBetween i end places

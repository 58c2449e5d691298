-- The events on the parts of a text, and the flags after a `Spread`.
use Rattle.std.specs.Prelude.{ℕ, ◌≡◌, ◌+◌, List, [], ◌∷◌, ◌++◌, length}
use Rattle.std.specs.Int.RustNames.{bit_and}
use Rattle.buffer_glyphs.specs.declared.level.BufferClusterLevel.{BufferClusterLevel}
use Rattle.buffer_glyphs.specs.Parts.{PartEvent, JoinParts, ReplaceParts, DeletePart, CirclePart, ReverseParts}
use Rattle.buffer_glyphs.specs.Levels.{grapheme_manner}
use Rattle.buffer_glyphs.specs.Origins.{Origin, Span, spans, InList, Manner, Unites, Marks, Keeps, manner}
use Rattle.buffer_glyphs.specs.Events.{Event, Merge, MergeGrapheme, Replace, Circle, Delete, Move, Arrange, Sort, Reverse, Break, Concat, Tatweel, StrictBreak, Spread, Reset}

-- the join of a range, where its merge unites
abbrev pub joins_of : Manner → ℕ → ℕ → List PartEvent
joins_of Unites from to = JoinParts from to ∷ []
joins_of Marks from to = []
joins_of Keeps from to = []

-- the joins of spans whose indices count from an index of the list
abbrev pub span_joins : Manner → ℕ → List Span → List PartEvent
span_joins m at [] = []
span_joins m at (s ∷ ss) = joins_of m (at + s.from) (at + s.to) ++ span_joins m at ss

-- the events on parts of one event on clusters
abbrev pub parts_of_event : BufferClusterLevel → Event → List PartEvent
parts_of_event level (Merge how from to) = joins_of (manner how level) from to
parts_of_event level (MergeGrapheme from to) = joins_of (grapheme_manner level) from to
parts_of_event level (Replace at taken given) = ReplaceParts at taken given ∷ []
parts_of_event level (Circle after beside like) = CirclePart beside ∷ []
parts_of_event level (Delete at) = DeletePart at ∷ []
parts_of_event level (Move how from order) = joins_of (manner how level) from (from + length order)
parts_of_event level (Arrange from order) = []
parts_of_event level (Sort from order) = span_joins (manner InList level) from (spans order)
parts_of_event level Reverse = ReverseParts ∷ []
parts_of_event level (Break from to) = []
parts_of_event level (Concat from to) = []
parts_of_event level (Tatweel from to) = []
parts_of_event level (StrictBreak from to) = []
parts_of_event level Spread = []
parts_of_event level Reset = []

-- the events on parts of a list of events on clusters
abbrev pub parts_of : BufferClusterLevel → List Event → List PartEvent
parts_of level [] = []
parts_of level (e ∷ es) = parts_of_event level e ++ parts_of level es

-- a neighbour before of the same cluster has the same flags
abbrev pub IsEven : Origin → List Origin → Type 0
IsEven p [] = Unit {0}
IsEven p (o ∷ os) = (p.cluster ≡ o.cluster → p.flags ≡ o.flags) × IsEven o os

-- neighbours of one cluster have the same flags
abbrev pub AreEvenRuns : List Origin → Type 0
AreEvenRuns [] = Unit {0}
AreEvenRuns (o ∷ os) = IsEven o os

-- no glyph has UNSAFE_TO_CONCAT
abbrev pub HaveNoConcat : List Origin → Type 0
HaveNoConcat [] = Unit {0}
HaveNoConcat (o ∷ os) = (bit_and o.flags 2 ≡ 0) × HaveNoConcat os

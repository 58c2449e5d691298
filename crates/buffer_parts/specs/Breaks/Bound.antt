-- Ranges that no text is to be broken within.
use Rattle.std.specs.Prelude.{ℕ, ◌≤◌, ◌<◌, ◌+◌, Bool, true, false, IsTrue, List, length, Option, Some, None}
use Rattle.buffer_glyphs.specs.declared.level.BufferClusterLevel.{BufferClusterLevel}
use Rattle.buffer_glyphs.specs.Levels.{InList, Manner, Unites, Marks, Keeps, manner, grapheme_manner}
use Rattle.buffer_glyphs.specs.Parts.{range_of}
use Rattle.buffer_glyphs.specs.Order.{has_number}
use Rattle.buffer_glyphs.specs.Origins.{Asks, Span}
use Rattle.buffer_glyphs.specs.Events.{Event, Merge, MergeGrapheme, Replace, Circle, Delete, Move, Arrange, Sort, Reverse, Break, Concat, Tatweel, StrictBreak, Spread, Reset}

-- the indices from `from` up to before `to` cross the start of cluster c: one has a cluster below c, and one has c or a
-- cluster above it
pub record Crosses (c from to : ℕ) (ns : List ℕ) : Type 0 where
  pub low : ℕ
  pub high : ℕ
  pub has_low : IsTrue (has_number (range_of from to ns) low)
  pub has_high : IsTrue (has_number (range_of from to ns) high)
  pub below : low < c
  pub above : c ≤ high

-- the indices from `from` up to before `to`, where a merge in a manner unites or flags them
abbrev pub merged_span : Manner → ℕ → ℕ → Option Span
merged_span Unites from to = Some (record { from = from; to = to })
merged_span Marks from to = Some (record { from = from; to = to })
merged_span Keeps from to = None

-- the indices from `from` up to before `to`, where something is requested
abbrev pub requested_span : Bool → ℕ → ℕ → Option Span
requested_span true from to = Some (record { from = from; to = to })
requested_span false from to = None

-- the indices that an event binds at a level, if there are any: it unites their clusters, or flags them as unsafe to
-- break or as safe to insert a tatweel
abbrev pub bound_span : Asks → BufferClusterLevel → Event → Option Span
bound_span asks level (Merge how from to) = merged_span (manner how level) from to
bound_span asks level (MergeGrapheme from to) = merged_span (grapheme_manner level) from to
bound_span asks level (Replace at taken given) = merged_span (manner InList level) at (at + taken)
bound_span asks level (Move how from order) = merged_span (manner how level) from (from + length order)
bound_span asks level (Break from to) = Some (record { from = from; to = to })
bound_span asks level (Tatweel from to) = Some (record { from = from; to = to })
bound_span asks level (StrictBreak from to) = requested_span asks.breaks from to
bound_span asks level (Circle after beside like) = None
bound_span asks level (Delete at) = None
bound_span asks level (Arrange from order) = None
bound_span asks level (Sort from order) = None
bound_span asks level Reverse = None
bound_span asks level (Concat from to) = None
bound_span asks level Spread = None
bound_span asks level Reset = None

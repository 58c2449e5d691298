-- What holds of events on one side of a cut.
use Rattle.std.specs.Prelude.{ℕ, ◌≡◌, ◌≤◌, ◌<◌, ◌⊎◌, ◌++◌, List, length, map}
use Rattle.buffer_glyphs.specs.declared.level.BufferClusterLevel.{BufferClusterLevel}
use Rattle.buffer_glyphs.specs.Origins.{Origin, Asks, numbers}
use Rattle.buffer_glyphs.specs.Events.{Event, Reverse, Spread, Reset, origins_after_event, origins_after}
use Rattle.buffer_glyphs.specs.Rewriting.{shifted_event}
use Rattle.buffer_parts.specs.Orderly.{IsOrderly}
use Rattle.buffer_parts.specs.Counts.{count_after}
use Rattle.buffer_parts.specs.Breaks.Unsafe.{IsUnsafeAt, HaveSafeBreaks}
use Rattle.buffer_parts.specs.Breaks.Lossless.{AreLossless}
use Rattle.buffer_parts.specs.Breaks.Bound.{Crosses}
use Rattle.buffer_parts.specs.Breaks.Sides.{AreBounded, AreCutAt}

-- a range of indices from the first of two lists that are cut at c into the second crosses the start of c
abbrev pub RangesCross : Type 0
RangesCross = (c from to : ℕ) (os qs : List Origin) → AreCutAt c os qs → from < length os → length os < to → to ≤ length (os ++ qs) → Crosses c from to (numbers (os ++ qs))

-- events within the first of two lists that are cut at c change it alone, or make it unsafe to break at c
abbrev pub FirstChangesAlone : Type 0
FirstChangesAlone = (asks : Asks) (level : BufferClusterLevel) (es : List Event) (os qs : List Origin) (c : ℕ) → HaveSafeBreaks asks level (os ++ qs) → IsOrderly asks level es (os ++ qs) → AreLossless es (length (os ++ qs))
    → AreBounded es (length os) → AreCutAt c os qs → IsUnsafeAt c (origins_after asks level es (os ++ qs)) ⊎ (origins_after asks level es (os ++ qs) ≡ origins_after asks level es os ++ qs)

-- events within the second of two lists that are cut at c, with indices of both, change it alone, or make it unsafe to
-- break at c
abbrev pub SecondChangesAlone : Type 0
SecondChangesAlone = (asks : Asks) (level : BufferClusterLevel) (es : List Event) (os qs : List Origin) (c : ℕ) → HaveSafeBreaks asks level (os ++ qs) → IsOrderly asks level (map (shifted_event (length os)) es) (os ++ qs)
    → AreLossless (map (shifted_event (length os)) es) (length (os ++ qs)) → AreBounded es (length qs) → AreCutAt c os qs
    → IsUnsafeAt c (origins_after asks level (map (shifted_event (length os)) es) (os ++ qs)) ⊎ (origins_after asks level (map (shifted_event (length os)) es) (os ++ qs) ≡ os ++ origins_after asks level es qs)

-- events within the first of two lists that are cut at c, and then events within the second, change each list alone, or
-- make it unsafe to break at c
abbrev pub BothChangeAlone : Type 0
BothChangeAlone = (asks : Asks) (level : BufferClusterLevel) (es fs : List Event) (os qs : List Origin) (c : ℕ) → HaveSafeBreaks asks level (os ++ qs)
    → IsOrderly asks level (es ++ map (shifted_event (count_after es (length os))) fs) (os ++ qs) → AreLossless (es ++ map (shifted_event (count_after es (length os))) fs) (length (os ++ qs))
    → AreBounded es (length os) → AreBounded fs (length qs) → AreCutAt c os qs
    → IsUnsafeAt c (origins_after asks level (es ++ map (shifted_event (count_after es (length os))) fs) (os ++ qs))
    ⊎ (origins_after asks level (es ++ map (shifted_event (count_after es (length os))) fs) (os ++ qs) ≡ origins_after asks level es os ++ origins_after asks level fs qs)

-- events within the second of two lists that are cut at c, and then events within the first, change each list alone, or
-- make it unsafe to break at c
abbrev pub BothChangeBackward : Type 0
BothChangeBackward = (asks : Asks) (level : BufferClusterLevel) (es fs : List Event) (os qs : List Origin) (c : ℕ) → HaveSafeBreaks asks level (os ++ qs)
    → IsOrderly asks level (map (shifted_event (length os)) fs ++ es) (os ++ qs) → AreLossless (map (shifted_event (length os)) fs ++ es) (length (os ++ qs))
    → AreBounded es (length os) → AreBounded fs (length qs) → AreCutAt c os qs
    → IsUnsafeAt c (origins_after asks level (map (shifted_event (length os)) fs ++ es) (os ++ qs))
    ⊎ (origins_after asks level (map (shifted_event (length os)) fs ++ es) (os ++ qs) ≡ origins_after asks level es os ++ origins_after asks level fs qs)

-- a reversal, a `Spread` and a `Reset` do to two lists, one after the other, what they do to each
pub record WholeIsBoth (asks : Asks) (level : BufferClusterLevel) (os qs : List Origin) : Type 0 where
  pub reversed : origins_after_event asks level (os ++ qs) Reverse ≡ origins_after_event asks level qs Reverse ++ origins_after_event asks level os Reverse
  pub spread : origins_after_event asks level (os ++ qs) Spread ≡ origins_after_event asks level os Spread ++ origins_after_event asks level qs Spread
  pub cleared : origins_after_event asks level (os ++ qs) Reset ≡ origins_after_event asks level os Reset ++ origins_after_event asks level qs Reset

-- law: lists that are cut at a cluster are reversed, spread and cleared each by itself
abbrev pub WholeEventsDivide : Type 0
WholeEventsDivide = (asks : Asks) (level : BufferClusterLevel) (os qs : List Origin) (c : ℕ) → AreCutAt c os qs → WholeIsBoth asks level os qs

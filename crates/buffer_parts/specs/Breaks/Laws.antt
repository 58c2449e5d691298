-- What holds of clusters at whose start it is unsafe to break.
use Rattle.std.specs.Prelude.{ℕ, ◌≡◌, ◌<◌, ◌+◌, ◌⊎◌, ◌++◌, Bool, true, false, List, [], ◌∷◌, length, Some}
use Rattle.buffer_glyphs.specs.declared.level.BufferClusterLevel.{BufferClusterLevel}
use Rattle.buffer_glyphs.specs.Order.{IsOrdered}
use Rattle.buffer_glyphs.specs.Origins.{Origin, Asks, Span, numbers, is_seam, origins_spread}
use Rattle.buffer_glyphs.specs.Events.{Event, Sort, Spread, StaysInSpans, origins_after_event, origins_after}
use Rattle.buffer_parts.specs.Orderly.{IsOrderly}
use Rattle.buffer_parts.specs.Counts.{count_after}
use Rattle.buffer_parts.specs.Breaks.Unsafe.{IsUnsafeAt, IsFlaggedAt, HaveNoTatweel, HaveSafeBreaks}
use Rattle.buffer_parts.specs.Breaks.Lossless.{IsPermuting, IsLossless, AreLossless}
use Rattle.buffer_parts.specs.Breaks.Concat.{SameButConcat, without_concats}
use Rattle.buffer_parts.specs.Breaks.Bound.{Crosses, bound_span}

-- ---- unsafe to break once and for all

-- where PRODUCE_SAFE_BREAKS is requested, a lossless event keeps a text unsafe to break at the start of a
-- cluster, at every level, where clusters are in order
abbrev pub EventStaysUnsafe : Type 0
EventStaysUnsafe = (asks : Asks) (level : BufferClusterLevel) (e : Event) (os : List Origin) (c : ℕ) → asks.breaks ≡ true → IsOrdered (numbers os) → IsLossless e (length os)
    → IsUnsafeAt c os → IsUnsafeAt c (origins_after_event asks level os e)

-- origins with safe breaks stay unsafe to break at the start of a cluster over orderly, lossless events
abbrev pub UnsafeStays : Type 0
UnsafeStays = (asks : Asks) (level : BufferClusterLevel) (es : List Event) (os : List Origin) (c : ℕ) → HaveSafeBreaks asks level os → IsOrderly asks level es os → AreLossless es (length os)
    → IsUnsafeAt c os → IsUnsafeAt c (origins_after asks level es os)

-- origins with safe breaks have safe breaks after orderly events, which keep clusters in order
abbrev pub SafeBreaksStay : Type 0
SafeBreaksStay = (asks : Asks) (level : BufferClusterLevel) (es : List Event) (os : List Origin) → HaveSafeBreaks asks level os → IsOrderly asks level es os → HaveSafeBreaks asks level (origins_after asks level es os)

-- events are lossless for n glyphs exactly where the first are, and the rest are for as many as the first leave
abbrev pub LosslessInTurn : Type 0
LosslessInTurn = (es fs : List Event) (n : ℕ) → (AreLossless (es ++ fs) n → AreLossless es n × AreLossless fs (count_after es n)) × (AreLossless es n → AreLossless fs (count_after es n) → AreLossless (es ++ fs) n)

-- ---- where it becomes unsafe

-- where PRODUCE_SAFE_BREAKS is requested, and clusters are in order, an event that binds a range across the start of a
-- cluster makes it unsafe to break there, at every level
abbrev pub BoundIsUnsafe : Type 0
BoundIsUnsafe = (asks : Asks) (level : BufferClusterLevel) (e : Event) (s : Span) (os : List Origin) (c : ℕ) → asks.breaks ≡ true → IsOrdered (numbers os) → IsLossless e (length os)
    → bound_span asks level e ≡ Some s → Crosses c s.from s.to (numbers os) → IsUnsafeAt c (origins_after_event asks level os e)

-- among orderly, lossless events, one that binds a range across the start of a cluster makes it unsafe to break there
-- after all of them
abbrev pub BoundStaysUnsafe : Type 0
BoundStaysUnsafe = (asks : Asks) (level : BufferClusterLevel) (es fs : List Event) (e : Event) (s : Span) (os : List Origin) (c : ℕ) → HaveSafeBreaks asks level os → IsOrderly asks level (es ++ e ∷ fs) os → AreLossless (es ++ e ∷ fs) (length os)
    → bound_span asks level e ≡ Some s → Crosses c s.from s.to (numbers (origins_after asks level es os)) → IsUnsafeAt c (origins_after asks level (es ++ e ∷ fs) os)

-- a sort makes it unsafe to break at the start of a cluster that two neighbours cross between which its order has no seam,
-- at every level, where clusters are in order
abbrev pub SortIsUnsafe : Type 0
SortIsUnsafe = (asks : Asks) (level : BufferClusterLevel) (from : ℕ) (order : List ℕ) (i : ℕ) (os : List Origin) (c : ℕ) → IsOrdered (numbers os) → IsPermuting from order (length os) → StaysInSpans order
    → i + 1 < length order → is_seam order (i + 1) ≡ false → Crosses c (from + i) (from + i + 2) (numbers os) → IsUnsafeAt c (origins_after_event asks level os (Sort from order))

-- among orderly, lossless events, such a sort makes it unsafe to break there after all of them
abbrev pub SortStaysUnsafe : Type 0
SortStaysUnsafe = (asks : Asks) (level : BufferClusterLevel) (es fs : List Event) (from : ℕ) (order : List ℕ) (i : ℕ) (os : List Origin) (c : ℕ) → HaveSafeBreaks asks level os
    → IsOrderly asks level (es ++ Sort from order ∷ fs) os → AreLossless (es ++ Sort from order ∷ fs) (length os)
    → i + 1 < length order → is_seam order (i + 1) ≡ false → Crosses c (from + i) (from + i + 2) (numbers (origins_after asks level es os)) → IsUnsafeAt c (origins_after asks level (es ++ Sort from order ∷ fs) os)

-- ---- where the result shows it

-- a `Spread` shows where it is unsafe to break, if SAFE_TO_INSERT_TATWEEL is requested, or no origin has it
abbrev pub SpreadShowsUnsafe : Type 0
SpreadShowsUnsafe = (asks : Asks) (os : List Origin) (c : ℕ) → (asks.tatweel ≡ true) ⊎ HaveNoTatweel os → IsUnsafeAt c os → IsFlaggedAt c (origins_spread asks os)

-- no event sets SAFE_TO_INSERT_TATWEEL where it isn't requested
abbrev pub NoTatweelStays : Type 0
NoTatweelStays = (asks : Asks) (level : BufferClusterLevel) (es : List Event) (os : List Origin) → asks.tatweel ≡ false → HaveNoTatweel os → HaveNoTatweel (origins_after asks level es os)

-- a cluster at whose start it is unsafe to break has UNSAFE_TO_BREAK after orderly, lossless events and a
-- `Spread`, where no origin had SAFE_TO_INSERT_TATWEEL at first
abbrev pub UnsafeIsShown : Type 0
UnsafeIsShown = (asks : Asks) (level : BufferClusterLevel) (es : List Event) (os : List Origin) (c : ℕ) → HaveSafeBreaks asks level os → IsOrderly asks level es os → AreLossless es (length os) → HaveNoTatweel os
    → IsUnsafeAt c os → IsFlaggedAt c (origins_after asks level (es ++ Spread ∷ []) os)

-- ---- UNSAFE_TO_CONCAT is apart

-- no event decides anything else by UNSAFE_TO_CONCAT, nor by whether it is requested
abbrev pub ConcatIsApart : Type 0
ConcatIsApart = (asks : Asks) (concat : Bool) (level : BufferClusterLevel) (es : List Event) (os qs : List Origin) → SameButConcat os qs → SameButConcat (origins_after asks level es os) (origins_after (record asks { concat = concat }) level es qs)

-- events that set UNSAFE_TO_CONCAT change nothing else
abbrev pub ConcatsAreApart : Type 0
ConcatsAreApart = (asks : Asks) (level : BufferClusterLevel) (es : List Event) (os : List Origin) → SameButConcat (origins_after asks level es os) (origins_after asks level (without_concats es) os)

-- What holds of fragments and of divisible stages.
use Rattle.std.specs.Prelude.{ℕ, ◌≡◌, ◌≤◌, ◌<◌, ◌+◌, Bool, false, List, ◌∷◌, ◌++◌, Some, length}
use Rattle.buffer_glyphs.specs.Items.{Item}
use Rattle.buffer_glyphs.specs.Origins.{Span}
use Rattle.buffer_glyphs.specs.Events.{Event}
use Rattle.buffer_parts.specs.Orderly.{IsOrderly}
use Rattle.buffer_parts.specs.Counts.{count_after}
use Rattle.buffer_core.specs.Readings.{Read, Stage, BufferState, and_then, always, as_it_is, state_after}
use Rattle.buffer_stages.specs.Stages.{with_items_mapped}
use Rattle.buffer_parts.specs.Stages.{KeepsParts}
use Rattle.buffer_parts.specs.Chains.{only_if}
use Rattle.buffer_parts.specs.Breaks.Unsafe.{IsUnsafeAt}
use Rattle.buffer_parts.specs.Breaks.Lossless.{AreLossless}
use Rattle.buffer_parts.specs.Breaks.Bound.{bound_span}
use Rattle.buffer_parts.specs.Breaks.Concat.{without_concats}
use Rattle.buffer_parts.specs.Breaks.Sides.{AreBounded}
use Rattle.buffer_parts.specs.Breaks.Fragments.{standing_first, standing_last, IsWhole, AreFragments, first_glyphs, glyphs_from, IsDividedAt}
use Rattle.buffer_parts.specs.Breaks.Divisible.{IsBreakable, OnlySpends, StaysBreakable, KeepsUnsafe, LosesNoFlag, KeepsPositions, StaysDivided, Divides, DividesFreely, IsDivisible, IsFreelyDivisible}
use Rattle.buffer_parts.specs.Breaks.Beside.{IsReadBeside, ReadsBeside, ReadsBesideFreely}

-- a state without ligature numbers that is divided at an index has its first glyphs and the others as fragments
abbrev pub DividedHasFragments : Type 0
DividedHasFragments = (n c : ℕ) (s : BufferState) → IsDividedAt n c s → IsWhole s → AreFragments false c s (first_glyphs n s) (glyphs_from n s)

-- a stage that keeps the parts of a text, and whose events are lossless, leaves states breakable and what is unsafe to
-- break unsafe
abbrev pub LosslessStagesKeepUnsafe : Type 0
LosslessStagesKeepUnsafe = (stage : Stage) → KeepsParts stage → LosesNoFlag stage → KeepsPositions stage → StaysBreakable stage × KeepsUnsafe stage

-- a stage that divides texts, and leaves them breakable, divides them with a divisible one after it
abbrev pub DividesInTurn : Type 0
DividesInTurn = (before between after : Bool) (s s1 s2 t t1 t2 : Stage) → StaysBreakable s → OnlySpends s → OnlySpends s1 → OnlySpends s2 → Divides before between s s1 s2 → IsDivisible between after t t1 t2
    → Divides before after (λ v. and_then (s v) t) (λ v. and_then (s1 v) t1) (λ v. and_then (s2 v) t2)

-- divisible stages are divisible one after the other
abbrev pub DivisibleInTurn : Type 0
DivisibleInTurn = (before between after : Bool) (s s1 s2 t t1 t2 : Stage) → IsDivisible before between s s1 s2 → IsDivisible between after t t1 t2
    → IsDivisible before after (λ v. and_then (s v) t) (λ v. and_then (s1 v) t1) (λ v. and_then (s2 v) t2)

-- a stage that divides texts whatever it spends, and leaves them breakable, divides them so with another such stage after
-- it
abbrev pub DividesFreelyInTurn : Type 0
DividesFreelyInTurn = (before between after : Bool) (s s1 s2 t t1 t2 : Stage) → StaysBreakable s → DividesFreely before between s s1 s2 → IsFreelyDivisible between after t t1 t2
    → DividesFreely before after (λ v. and_then (s v) t) (λ v. and_then (s1 v) t1) (λ v. and_then (s2 v) t2)

-- stages that are divisible whatever they spend are so one after the other
abbrev pub FreelyDivisibleInTurn : Type 0
FreelyDivisibleInTurn = (before between after : Bool) (s s1 s2 t t1 t2 : Stage) → IsFreelyDivisible before between s s1 s2 → IsFreelyDivisible between after t t1 t2
    → IsFreelyDivisible before after (λ v. and_then (s v) t) (λ v. and_then (s1 v) t1) (λ v. and_then (s2 v) t2)

-- a stage that is divisible whatever it spends is divisible where it only spends
abbrev pub FreeIsDivisible : Type 0
FreeIsDivisible = (falls turned : Bool) (stage early late : Stage) → IsFreelyDivisible falls turned stage early late → OnlySpends stage → OnlySpends early → OnlySpends late → IsDivisible falls turned stage early late

-- a stage that changes nothing is divisible
abbrev pub SameIsDivisible : Type 0
SameIsDivisible = (falls : Bool) → IsFreelyDivisible falls falls as_it_is as_it_is as_it_is

-- a divisible stage is divisible where it is done only by a condition
abbrev pub WantedIsDivisible : Type 0
WantedIsDivisible = (wanted falls : Bool) (stage early late : Stage) → IsFreelyDivisible falls falls stage early late → IsFreelyDivisible falls falls (only_if wanted stage) (only_if wanted early) (only_if wanted late)

-- a stage that changes each item by itself is divisible, where the change neither reads nor changes the ligature word
abbrev pub ItemsAreDivisible : Type 0
ItemsAreDivisible = (falls : Bool) (f : Item → Item) → ((n : ℕ) (x : Item) → f (record x { lig_props = n }) ≡ record (f x) { lig_props = n })
    → IsFreelyDivisible falls falls (always (with_items_mapped f)) (always (with_items_mapped f)) (always (with_items_mapped f))

-- a text stays divided where what is read of it is what is read of its fragments, by orderly, lossless events
abbrev pub BesideStaysDivided : Type 0
BesideStaysDivided = (backward falls : Bool) (c : ℕ) (whole earlier later : BufferState) (r e l : Read) → IsBreakable whole → AreFragments falls c whole earlier later
    → IsOrderly whole.asks whole.level (r.events whole.level) whole.origins → AreLossless (r.events whole.level) (length whole.origins)
    → IsReadBeside backward falls whole.level (length earlier.origins) (length later.origins) r e l
    → StaysDivided falls c (state_after r whole) (state_after e earlier) (state_after l later)

-- a stage that reads a text as its fragments, one beside the other, is divisible, where it keeps the parts of a text, its
-- events are lossless, and it gives no budget and no ligature number back
abbrev pub BesideIsDivisible : Type 0
BesideIsDivisible = (backward falls : Bool) (stage early late : Stage) → KeepsParts stage → LosesNoFlag stage → KeepsPositions stage → OnlySpends stage → OnlySpends early → OnlySpends late → ReadsBeside backward falls stage early late → IsDivisible falls falls stage early late

-- a stage that reads a text so whatever it spends is divisible whatever it spends
abbrev pub BesideIsFreelyDivisible : Type 0
BesideIsFreelyDivisible = (backward falls : Bool) (stage early late : Stage) → KeepsParts stage → LosesNoFlag stage → KeepsPositions stage → ReadsBesideFreely backward falls stage early late → IsFreelyDivisible falls falls stage early late

-- among orderly, lossless events, one that binds a range across both fragments makes it unsafe to break between them after
-- all of them, where those before it have indices of the fragment that stands first
abbrev pub CrossingIsUnsafe : Type 0
CrossingIsUnsafe = (falls : Bool) (c : ℕ) (whole earlier later : BufferState) (r : Read) (es fs : List Event) (e : Event) (s : Span) → IsBreakable whole → AreFragments falls c whole earlier later
    → IsOrderly whole.asks whole.level (r.events whole.level) whole.origins → AreLossless (r.events whole.level) (length whole.origins)
    → without_concats (r.events whole.level) ≡ es ++ e ∷ fs → AreBounded es (length (standing_first falls earlier.origins later.origins)) → bound_span whole.asks whole.level e ≡ Some s
    → s.from < count_after es (length (standing_first falls earlier.origins later.origins)) → count_after es (length (standing_first falls earlier.origins later.origins)) < s.to
    → s.to ≤ count_after es (length (standing_first falls earlier.origins later.origins)) + length (standing_last falls earlier.origins later.origins) → IsUnsafeAt c (state_after r whole).origins

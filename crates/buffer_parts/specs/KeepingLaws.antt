-- What holds of events that keep the parts of a text.
use Rattle.std.specs.Prelude.{ℕ, ◌≡◌, ◌≤◌, ◌<◌, ◌+◌, ◌-◌, Bool, List, [], ◌∷◌, ◌++◌, length}
use Rattle.buffer_glyphs.specs.declared.level.BufferClusterLevel.{BufferClusterLevel}
use Rattle.buffer_glyphs.specs.Levels.{IsMonotone, Merging}
use Rattle.buffer_glyphs.specs.Order.{IsInOrder}
use Rattle.buffer_glyphs.specs.Origins.{Origin, Asks, numbers}
use Rattle.buffer_glyphs.specs.Events.{Event, Merge, Replace, IsPlain}
use Rattle.buffer_parts.specs.Counts.{count_after, AreGiving, ligature_deletions, AreBetween}
use Rattle.buffer_parts.specs.Keeping.{AreKept, HaveParts}

-- two lists of events that keep the parts of a text keep them one after the other
abbrev pub KeptInTurn : Type 0
KeptInTurn = (level : BufferClusterLevel) (es fs : List Event) (before mid after : ℕ) → AreKept level es before mid → AreKept level fs mid after → AreKept level (es ++ fs) before after

-- plain events whose replacements all give a glyph keep the parts of a text
abbrev pub PlainIsKept : Type 0
PlainIsKept = (level : BufferClusterLevel) (es : List Event) (before after : ℕ) → IsPlain es → AreGiving es → count_after es before ≡ after → AreKept level es before after

-- replacing one glyph by others keeps the parts of a text
abbrev pub ReplacementsKeepParts : Type 0
ReplacementsKeepParts = (level : BufferClusterLevel) (at given n : ℕ) → at < n → 0 < given → AreKept level (Replace at 1 given ∷ []) n (n - 1 + given)

-- a ligature keeps the parts of a text: its glyphs merge, and the other components are deleted
abbrev pub LigaturesKeepParts : Type 0
LigaturesKeepParts = (how : Merging) (level : BufferClusterLevel) (at end : ℕ) (places : List ℕ) (n : ℕ) → at + end ≤ n → AreBetween 0 end places
    → AreKept level (Merge how at (at + end) ∷ ligature_deletions at 0 places) n (n - length places)

-- at a monotone level, clusters in order become the parts of events that keep the parts of a text
abbrev pub KeptEventsHaveParts : Type 0
KeptEventsHaveParts = (level : BufferClusterLevel) (es : List Event) (before after : ℕ) (falls : Bool) (asks : Asks) (os : List Origin) → AreKept level es before after → IsMonotone level → length os ≡ before → IsInOrder falls (numbers os)
    → HaveParts falls asks level es os

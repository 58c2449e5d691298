-- What holds of orderly events, of the parts of characters and of slices.
use Rattle.std.specs.Prelude.{ℕ, ◌≡◌, ◌≢◌, ◌≤◌, ◌<◌, ◌⊎◌, Bool, IsTrue, List, [], ◌++◌, length, map}
use Rattle.buffer_glyphs.specs.declared.level.BufferClusterLevel.{BufferClusterLevel}
use Rattle.buffer_glyphs.specs.Parts.{PartEvent, after_part_event, after_part_events}
use Rattle.buffer_glyphs.specs.Levels.{IsMonotone}
use Rattle.buffer_glyphs.specs.Origins.{Origin, Asks, numbers}
use Rattle.buffer_glyphs.specs.Events.{Event, IsPlain, origins_after}
use Rattle.buffer_glyphs.specs.EventParts.{parts_of}
use Rattle.buffer_glyphs.specs.Order.{IsInOrder, IsOrdered, IsLeast, BringsNone, IsGiving, falls_after, has_number}
use Rattle.buffer_parts.specs.Orderly.{IsOrderly}
use Rattle.buffer_parts.specs.CharacterParts.{part_after, part_after_event, items_left, AreUnitedByEvents, IsGreatestUpTo}
use Rattle.buffer_parts.specs.Slices.{slices, AreJoined, text_of_slices, ShareSlice}

-- ---- orderly events

-- plain events are orderly, whatever they meet
abbrev pub PlainIsOrderly : Type 0
PlainIsOrderly = (asks : Asks) (level : BufferClusterLevel) (es : List Event) (os : List Origin) → IsPlain es → IsOrderly asks level es os

-- events are orderly where the first are, and the rest where the first led
abbrev pub OrderlyInTurn : Type 0
OrderlyInTurn = (asks : Asks) (level : BufferClusterLevel) (es fs : List Event) (os : List Origin)
    → (IsOrderly asks level (es ++ fs) os → IsOrderly asks level es os × IsOrderly asks level fs (origins_after asks level es os))
    × (IsOrderly asks level es os → IsOrderly asks level fs (origins_after asks level es os) → IsOrderly asks level (es ++ fs) os)

-- at a monotone level, on clusters in order, orderly events do to clusters what they do to the parts of the text
abbrev pub OriginsAreParts : Type 0
OriginsAreParts = (asks : Asks) (level : BufferClusterLevel) (es : List Event) (os : List Origin) → IsMonotone level → IsOrderly asks level es os → IsOrdered (numbers os)
    → numbers (origins_after asks level es os) ≡ after_part_events (parts_of level es) (numbers os)

-- clusters in order stay in order, falling where they rose and rising where they fell after each reversal
abbrev pub OriginsKeepOrder : Type 0
OriginsKeepOrder = (asks : Asks) (level : BufferClusterLevel) (es : List Event) (falls : Bool) (os : List Origin) → IsMonotone level → IsOrderly asks level es os → IsInOrder falls (numbers os)
    → IsInOrder (falls_after falls (parts_of level es)) (numbers (origins_after asks level es os))

-- the least cluster is kept while a glyph is left, where no replacement drops the last glyph of a part
abbrev pub OriginsKeepLeast : Type 0
OriginsKeepLeast = (asks : Asks) (level : BufferClusterLevel) (es : List Event) (falls : Bool) (os : List Origin) (m : ℕ) → IsMonotone level → IsOrderly asks level es os → IsGiving (parts_of level es) (numbers os)
    → IsInOrder falls (numbers os) → IsLeast m (numbers os) → origins_after asks level es os ≢ [] → IsLeast m (numbers (origins_after asks level es os))

-- ---- the parts of characters

-- the parts of the items after an event are those of `part_after_event`, of the items that it leaves
abbrev pub EventsAreUnions : Type 0
EventsAreUnions = (e : PartEvent) (ns : List ℕ) → after_part_event ns e ≡ items_left e (map (part_after_event ns e) ns)

-- after events each number is the part of a number that was there
abbrev pub NumbersAreParts : Type 0
NumbersAreParts = (es : List PartEvent) (ns : List ℕ) → BringsNone (map (part_after es ns) ns) (after_part_events es ns)

-- the part of a greater number is no less
abbrev pub PartsRise : Type 0
PartsRise = (es : List PartEvent) (ns : List ℕ) (m n : ℕ) → m ≤ n → part_after es ns m ≤ part_after es ns n

-- no number is in a part with a greater number
abbrev pub PartsAreNoGreater : Type 0
PartsAreNoGreater = (es : List PartEvent) (ns : List ℕ) (n : ℕ) → part_after es ns n ≤ n

-- a number that is among the items afterwards is its own part
abbrev pub PartsStay : Type 0
PartsStay = (es : List PartEvent) (ns : List ℕ) (n : ℕ) → IsTrue (has_number (after_part_events es ns) n) → part_after es ns n ≡ n

-- each part keeps an item while one is left, where no replacement drops the last item of a part
abbrev pub PartsHaveGlyphs : Type 0
PartsHaveGlyphs = (es : List PartEvent) (falls : Bool) (ns : List ℕ) (n : ℕ) → IsInOrder falls ns → IsGiving es ns → after_part_events es ns ≢ [] → IsTrue (has_number ns n)
    → IsTrue (has_number (after_part_events es ns) (part_after es ns n))

-- the part of a number is the greatest number of the result that is no greater than it
abbrev pub SlicesAreParts : Type 0
SlicesAreParts = (es : List PartEvent) (falls : Bool) (ns : List ℕ) (n : ℕ) → IsInOrder falls ns → IsGiving es ns → after_part_events es ns ≢ [] → IsTrue (has_number ns n)
    → IsGreatestUpTo (part_after es ns n) n (after_part_events es ns)

-- two numbers are in one part exactly where they are equal or an event united their parts
abbrev pub PartsAreUnited : Type 0
PartsAreUnited = (es : List PartEvent) (ns : List ℕ) (m n : ℕ)
    → (part_after es ns m ≡ part_after es ns n → (m ≡ n) ⊎ AreUnitedByEvents es ns m n)
    × (AreUnitedByEvents es ns m n → part_after es ns m ≡ part_after es ns n)

-- ---- slices

-- slices cover the whole text where 0 is the least number and each number is less than its length
abbrev pub SlicesJoin : Type 0
SlicesJoin = (ns : List ℕ) (end : ℕ) → IsLeast 0 ns → ((n : ℕ) → IsTrue (has_number ns n) → n < end) → AreJoined 0 end (slices ns end)

-- the slices of a text, concatenated, are the text
abbrev pub SlicesAreText : Type 0
SlicesAreText = (ns : List ℕ) (text : List ℕ) → IsLeast 0 ns → ((n : ℕ) → IsTrue (has_number ns n) → n < length text) → text_of_slices text (slices ns (length text)) ≡ text

-- characters share a slice exactly where their parts are one
abbrev pub SlicesShareParts : Type 0
SlicesShareParts = (es : List PartEvent) (falls : Bool) (ns : List ℕ) (end m n : ℕ) → IsInOrder falls ns → IsGiving es ns → after_part_events es ns ≢ []
    → IsTrue (has_number ns m) → IsTrue (has_number ns n) → m < end → n < end
    → (ShareSlice (slices (after_part_events es ns) end) m n → part_after es ns m ≡ part_after es ns n)
    × (part_after es ns m ≡ part_after es ns n → ShareSlice (slices (after_part_events es ns) end) m n)

-- two characters share a slice only where an event united their parts
abbrev pub SlicesAreNoCoarser : Type 0
SlicesAreNoCoarser = (es : List PartEvent) (falls : Bool) (ns : List ℕ) (end m n : ℕ) → IsInOrder falls ns → IsGiving es ns → after_part_events es ns ≢ []
    → IsTrue (has_number ns m) → IsTrue (has_number ns n) → m < end → n < end → m ≢ n → ShareSlice (slices (after_part_events es ns) end) m n → AreUnitedByEvents es ns m n

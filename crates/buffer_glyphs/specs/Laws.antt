-- Laws of all lists of events, of merges and of deletions.
use Rattle.std.specs.Prelude.{ℕ, ◌≡◌, ◌≢◌, Bool, false, List, [], ◌∷◌, ◌++◌, length}
use Rattle.buffer_glyphs.specs.declared.level.BufferClusterLevel.{BufferClusterLevel}
use Rattle.buffer_glyphs.specs.Parts.{PartEvent, DeletePart, joined_numbers, after_part_event, after_part_events}
use Rattle.buffer_glyphs.specs.Deletions.{number_deleted}
use Rattle.buffer_glyphs.specs.Levels.{IsMonotone}
use Rattle.buffer_glyphs.specs.declared.info.hb_glyph_info_t.{hb_glyph_info_t}
use Rattle.buffer_glyphs.specs.Items.{clusters, strip}
use Rattle.buffer_glyphs.specs.Deleting.{DeletionSides, sides_handed_on}
use Rattle.buffer_glyphs.specs.Origins.{Origin, Asks, origins_handed_on, numbers, origins, origins_spread}
use Rattle.buffer_glyphs.specs.Events.{Event, IsPlain, origins_after}
use Rattle.buffer_glyphs.specs.EventParts.{parts_of, AreEvenRuns, HaveNoConcat}
use Rattle.buffer_glyphs.specs.Order.{IsOrdered}
use Rattle.buffer_glyphs.specs.Merges.{merged_number, merged_numbers, IsLeastCoarsening}
use Rattle.buffer_glyphs.specs.Order.{IsInOrder, IsLeast, BringsNone, IsGiving, falls_after}

-- parts in order stay in order, reversed whenever the list is
abbrev pub KeepsOrder : Type 0
KeepsOrder = (es : List PartEvent) (falls : Bool) (ns : List ℕ) → IsInOrder falls ns → IsInOrder (falls_after falls es) (after_part_events es ns)

-- the least of parts in order stays while an item is left
abbrev pub KeepsLeast : Type 0
KeepsLeast = (es : List PartEvent) (falls : Bool) (ns : List ℕ) (m : ℕ) → IsGiving es ns → IsInOrder falls ns → IsLeast m ns → after_part_events es ns ≢ [] → IsLeast m (after_part_events es ns)

-- no event introduces a new part number
abbrev pub KeepsNumbers : Type 0
KeepsNumbers = (es : List PartEvent) (ns : List ℕ) → BringsNone ns (after_part_events es ns)

-- a merge unites the numbers of its range, and no others
abbrev pub MergeUnites : Type 0
MergeUnites = (range : List ℕ) → IsLeastCoarsening range (merged_number range)

-- on numbers in order, a merge of the numbers that occur in a range is the join of its parts
abbrev pub MergeIsJoin : Type 0
MergeIsJoin = (falls : Bool) (front range back : List ℕ) → IsInOrder falls (front ++ range ++ back) → merged_numbers range (front ++ range ++ back) ≡ joined_numbers range (front ++ range ++ back)

-- on numbers in order, at a monotone level, a deletion is the event `Delete`: a part that loses its last item unites
-- with a neighbour's
abbrev pub DeletionIsEvent : Type 0
DeletionIsEvent = (level : BufferClusterLevel) (falls : Bool) (front : List ℕ) (n : ℕ) (back : List ℕ) → IsMonotone level → IsInOrder falls (front ++ n ∷ back) → number_deleted level front n back ≡ after_part_event (front ++ n ∷ back) (DeletePart (length front))

-- no event introduces a new cluster number, at any level
abbrev pub OriginsKeepNumbers : Type 0
OriginsKeepNumbers = (asks : Asks) (level : BufferClusterLevel) (es : List Event) (os : List Origin) → BringsNone (numbers os) (numbers (origins_after asks level es os))

-- at a monotone level, on clusters in order, events do to clusters what they do to the parts of the text
abbrev pub OriginsAreParts : Type 0
OriginsAreParts = (asks : Asks) (level : BufferClusterLevel) (es : List Event) (os : List Origin) → IsMonotone level → IsPlain es → IsOrdered (numbers os) → numbers (origins_after asks level es os) ≡ after_part_events (parts_of level es) (numbers os)

-- clusters in order stay in order at a monotone level, reversed whenever the list is
abbrev pub OriginsKeepOrder : Type 0
OriginsKeepOrder = (asks : Asks) (level : BufferClusterLevel) (es : List Event) (falls : Bool) (os : List Origin) → IsMonotone level → IsPlain es → IsInOrder falls (numbers os)
    → IsInOrder (falls_after falls (parts_of level es)) (numbers (origins_after asks level es os))

-- at a monotone level the least of clusters in order stays while a glyph is left, where no replacement drops the last
-- glyph of a part
abbrev pub OriginsKeepLeast : Type 0
OriginsKeepLeast = (asks : Asks) (level : BufferClusterLevel) (es : List Event) (falls : Bool) (os : List Origin) (m : ℕ) → IsMonotone level → IsPlain es → IsGiving (parts_of level es) (numbers os)
    → IsInOrder falls (numbers os) → IsLeast m (numbers os) → origins_after asks level es os ≢ [] → IsLeast m (numbers (origins_after asks level es os))

-- after a `Spread`, neighbours of one cluster have the same flags
abbrev pub SpreadIsEven : Type 0
SpreadIsEven = (asks : Asks) (os : List Origin) → AreEvenRuns (origins_spread asks os)

-- after a `Spread`, UNSAFE_TO_CONCAT is set only where it was requested
abbrev pub SpreadHasNoConcat : Type 0
SpreadHasNoConcat = (tatweel breaks : Bool) (os : List Origin) → HaveNoConcat (origins_spread (record { concat = false; tatweel = tatweel; breaks = breaks }) os)

-- ---- flags handed on

-- glyphs that get the flags of others are the same but for flags, and their origins get the flags that are handed on
pub record HandOn (gone : List hb_glyph_info_t) (s : DeletionSides) : Type 0 where
  pub same_front : strip (sides_handed_on gone s).front ≡ strip s.front
  pub same_back : strip (sides_handed_on gone s).back ≡ strip s.back
  pub same_clusters : clusters ((sides_handed_on gone s).front ++ (sides_handed_on gone s).back) ≡ clusters (s.front ++ s.back)
  pub origins_by_rule : origins ((sides_handed_on gone s).front ++ (sides_handed_on gone s).back) ≡ origins_handed_on (origins gone) (length s.front) (origins (s.front ++ s.back))

-- law: so are all glyphs between which others leave
abbrev pub FlagsAreHandedOn : Type 0
FlagsAreHandedOn = (gone : List hb_glyph_info_t) (s : DeletionSides) → HandOn gone s

-- What holds of reversed groups, of deletions, and of clusters that are starts of characters.
use Rattle.std.specs.Prelude.{ℕ, ◌≡◌, ◌≢◌, ◌⊎◌, Bool, IsTrue, List, [], ◌∷◌, ◌++◌, Some, None, drop}
use Rattle.buffer_glyphs.specs.declared.level.BufferClusterLevel.{BufferClusterLevel}
use Rattle.buffer_glyphs.specs.Levels.{IsMonotone}
use Rattle.buffer_glyphs.specs.Parts.{PartEvent, DeletePart, first_of, numbers_without, after_part_events}
use Rattle.buffer_glyphs.specs.Order.{IsInOrder, IsOrdered, IsGiving, falls_after, has_number}
use Rattle.buffer_glyphs.specs.Origins.{Origin, Asks, numbers}
use Rattle.buffer_glyphs.specs.Events.{Event, Reverse, origins_after}
use Rattle.buffer_parts.specs.Orderly.{IsOrderly}
use Rattle.buffer_parts.specs.CharacterParts.{union_of}
use Rattle.buffer_parts.specs.Groups.{merges_from, arranges_from, AreOneGroups, AreSingle, IsFitting}
use Rattle.buffer_glyphs.specs.EventParts.{parts_of}
use Rattle.buffer_parts.specs.Fits.{FitsText}
use Rattle.buffer_parts.specs.Turns.{IsUnturned}

-- groups of one cluster each may be reversed, and then the list
abbrev pub OneGroupsMayTurn : Type 0
OneGroupsMayTurn = (order : ℕ → List ℕ) (asks : Asks) (level : BufferClusterLevel) (at : ℕ) (lens : List ℕ) (os : List Origin) → IsFitting order → AreOneGroups at lens (numbers os)
    → IsOrderly asks level (arranges_from order at lens ++ Reverse ∷ []) os

-- at a monotone level the clusters of groups that merged are one
abbrev pub MergedGroupsAreOne : Type 0
MergedGroupsAreOne = (asks : Asks) (level : BufferClusterLevel) (at : ℕ) (lens : List ℕ) (os : List Origin) → IsMonotone level → IsOrdered (numbers os)
    → AreOneGroups at lens (numbers (origins_after asks level (merges_from at lens) os))

-- at a monotone level groups that merged may be reversed, and then the list
abbrev pub MergedGroupsMayTurn : Type 0
MergedGroupsMayTurn = (order : ℕ → List ℕ) (asks : Asks) (level : BufferClusterLevel) (at : ℕ) (lens : List ℕ) (os : List Origin) → IsFitting order → IsMonotone level → IsOrdered (numbers os)
    → IsOrderly asks level (merges_from at lens ++ (arranges_from order at lens ++ Reverse ∷ [])) os

-- groups of single elements are of one cluster each without a merge
abbrev pub SingleGroupsAreOne : Type 0
SingleGroupsAreOne = (at : ℕ) (lens ns : List ℕ) → AreSingle lens → AreOneGroups at lens ns

-- on clusters in order, a deletion unites parts exactly where no other item of its part is left but some other item is
abbrev pub DeletionsUniteTheLast : Type 0
DeletionsUniteTheLast = (falls : Bool) (at n : ℕ) (ns : List ℕ) → IsInOrder falls ns → first_of (drop at ns) ≡ Some n
    → (IsTrue (has_number (numbers_without at ns) n) → union_of ns (DeletePart at) ≡ None)
    × (union_of ns (DeletePart at) ≡ None → IsTrue (has_number (numbers_without at ns) n) ⊎ (numbers_without at ns ≡ []))

-- where the clusters were the starts of all characters, they fit the text after events, while a glyph is left
abbrev pub PartsFitText : Type 0
PartsFitText = (es : List PartEvent) (falls : Bool) (starts : List ℕ) → IsInOrder falls starts → IsGiving es starts → after_part_events es starts ≢ [] → IsTrue (has_number starts 0) → FitsText starts (after_part_events es starts)

-- where no event reverses the list, rising clusters rise and falling ones fall afterwards
abbrev pub UnturnedKeepsSide : Type 0
UnturnedKeepsSide = (level : BufferClusterLevel) (es : List Event) (falls : Bool) → IsUnturned es → falls_after falls (parts_of level es) ≡ falls

-- the reversals of two lists of events add up
abbrev pub TurnsAddUp : Type 0
TurnsAddUp = (level : BufferClusterLevel) (es fs : List Event) (falls : Bool) → falls_after falls (parts_of level (es ++ fs)) ≡ falls_after (falls_after falls (parts_of level es)) (parts_of level fs)

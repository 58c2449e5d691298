-- What holds of the number of glyphs, and of events that drop no part.
use Rattle.std.specs.Prelude.{ℕ, ◌≡◌, ◌≤◌, ◌+◌, Bool, List, ◌∷◌, length}
use Rattle.buffer_glyphs.specs.declared.level.BufferClusterLevel.{BufferClusterLevel}
use Rattle.buffer_glyphs.specs.Levels.{IsMonotone, Merging}
use Rattle.buffer_glyphs.specs.Order.{IsInOrder, IsGiving}
use Rattle.buffer_glyphs.specs.Origins.{Origin, Asks}
use Rattle.buffer_glyphs.specs.Events.{Event, Merge, origins_after}
use Rattle.buffer_glyphs.specs.EventParts.{parts_of}
use Rattle.buffer_parts.specs.Counts.{count_after, AreGiving, ligature_deletions, AreBetween}

-- how many glyphs events leave depends on how many there were, and on no level, request or cluster
abbrev pub CountsFollow : Type 0
CountsFollow = (asks : Asks) (level : BufferClusterLevel) (es : List Event) (os : List Origin) → length (origins_after asks level es os) ≡ count_after es (length os)

-- where each replacement gives a glyph, none drops the last item of a part
abbrev pub GivingIsGiving : Type 0
GivingIsGiving = (level : BufferClusterLevel) (es : List Event) (ns : List ℕ) → AreGiving es → IsGiving (parts_of level es) ns

-- deleting the components of a ligature drops no part, since their parts were joined first
abbrev pub LigaturesAreGiving : Type 0
LigaturesAreGiving = (how : Merging) (level : BufferClusterLevel) (falls : Bool) (at end : ℕ) (places ns : List ℕ) → IsMonotone level → IsInOrder falls ns → at + end ≤ length ns → AreBetween 0 end places
    → IsGiving (parts_of level (Merge how at (at + end) ∷ ligature_deletions at 0 places)) ns

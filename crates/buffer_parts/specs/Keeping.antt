-- Events that keep the parts of a text, and what clusters in order become by them.
use Rattle.std.specs.Prelude.{ℕ, ◌≡◌, ◌≢◌, ◌<◌, Bool, IsTrue, List, [], length}
use Rattle.buffer_glyphs.specs.declared.level.BufferClusterLevel.{BufferClusterLevel}
use Rattle.buffer_glyphs.specs.Levels.{IsMonotone}
use Rattle.buffer_glyphs.specs.Parts.{after_part_events}
use Rattle.buffer_glyphs.specs.Order.{IsInOrder, IsOrdered, IsLeast, IsGiving, falls_after, has_number}
use Rattle.buffer_glyphs.specs.Origins.{Origin, Asks, numbers}
use Rattle.buffer_glyphs.specs.Events.{Event, origins_after}
use Rattle.buffer_glyphs.specs.EventParts.{parts_of}
use Rattle.buffer_parts.specs.Orderly.{IsOrderly}
use Rattle.buffer_parts.specs.CharacterParts.{part_after}
use Rattle.buffer_parts.specs.Slices.{slices, AreJoined, ShareSlice}
use Rattle.buffer_parts.specs.Fits.{FitsText}
use Rattle.buffer_parts.specs.Counts.{count_after}

-- events that apply to `before` glyphs and leave `after`: at a monotone level, where clusters are in order, they are orderly and no replacement drops the last item of a part
pub record AreKept (level : BufferClusterLevel) (es : List Event) (before after : ℕ) : Type 0 where
  pub orderly : (asks : Asks) (os : List Origin) → IsMonotone level → length os ≡ before → IsOrdered (numbers os) → IsOrderly asks level es os
  pub giving : (falls : Bool) (ns : List ℕ) → IsMonotone level → length ns ≡ before → IsInOrder falls ns → IsGiving (parts_of level es) ns
  pub counted : count_after es before ≡ after

-- characters with the clusters `old` share a slice of the clusters `new` exactly where their parts are one, and the slices cover the text up to `end`
pub record AreSliced (level : BufferClusterLevel) (es : List Event) (old new : List ℕ) (end : ℕ) : Type 0 where
  pub shared : (m n : ℕ) → IsTrue (has_number old m) → IsTrue (has_number old n) → m < end → n < end
      → (ShareSlice (slices new end) m n → part_after (parts_of level es) old m ≡ part_after (parts_of level es) old n)
      × (part_after (parts_of level es) old m ≡ part_after (parts_of level es) old n → ShareSlice (slices new end) m n)
  pub joined : IsLeast 0 old → ((n : ℕ) → IsTrue (has_number old n) → n < end) → AreJoined 0 end (slices new end)

-- clusters become the parts of the events and stay in order; while a glyph is left, the least cluster is kept, the clusters fit the text, and its slices are the parts
pub record HaveParts (falls : Bool) (asks : Asks) (level : BufferClusterLevel) (es : List Event) (os : List Origin) : Type 0 where
  pub clusters : numbers (origins_after asks level es os) ≡ after_part_events (parts_of level es) (numbers os)
  pub line : IsInOrder (falls_after falls (parts_of level es)) (numbers (origins_after asks level es os))
  pub least : (m : ℕ) → origins_after asks level es os ≢ [] → IsLeast m (numbers os) → IsLeast m (numbers (origins_after asks level es os))
  pub fits : origins_after asks level es os ≢ [] → IsTrue (has_number (numbers os) 0) → FitsText (numbers os) (numbers (origins_after asks level es os))
  pub sliced : (end : ℕ) → origins_after asks level es os ≢ [] → AreSliced level es (numbers os) (numbers (origins_after asks level es os)) end

-- Stages that keep the parts of a text.
use Rattle.std.specs.Prelude.{◌≡◌, length, Ok}
use Rattle.buffer_glyphs.specs.declared.level.BufferClusterLevel.{BufferClusterLevel}
use Rattle.buffer_core.specs.Readings.{IsMonotone, View, Read, Stage}
use Rattle.buffer_parts.specs.Turns.{IsUnturned}
use Rattle.buffer_parts.specs.Keeping.{AreKept}

-- whatever a stage reads, its events keep the parts of the text, and leave as many glyphs as the items that it gives
abbrev pub KeepsParts : Stage → Type 0
KeepsParts stage = (v : View) (r : Read) (level : BufferClusterLevel) → stage v ≡ Ok r → AreKept level (r.events level) (length v.items) (length r.view.items)

-- a stage reverses no list, so clusters rise to the side to which they rose
abbrev pub StaysUnturned : Stage → Type 0
StaysUnturned stage = (v : View) (r : Read) (level : BufferClusterLevel) → IsMonotone level → stage v ≡ Ok r → IsUnturned (r.events level)

-- a stage keeps the parts of a text, and reverses no list
pub record KeepsPartsInLine (stage : Stage) : Type 0 where
  pub parts : KeepsParts stage
  pub unturned : StaysUnturned stage

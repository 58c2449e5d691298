-- Stages that keep the parts of a text, and the order of its clusters along the line.
use Rattle.std.specs.Prelude.{◌≡◌, Bool, not, if◌then◌else◌, Ok}
use Rattle.buffer_common.specs.Direction.{is_backward}
use Rattle.buffer_common.specs.declared.direction.Direction.{Direction}
use Rattle.buffer_glyphs.specs.declared.level.BufferClusterLevel.{BufferClusterLevel}
use Rattle.buffer_glyphs.specs.EventParts.{parts_of}
use Rattle.buffer_glyphs.specs.Order.{falls_after}
use Rattle.buffer_core.specs.Readings.{IsMonotone, View, Read, Stage}
use Rattle.buffer_parts.specs.Stages.{KeepsParts, KeepsPartsInLine}

-- a stage leaves the direction of a text as it is
abbrev pub KeepsDirection : Stage → Type 0
KeepsDirection stage = (v : View) (r : Read) → stage v ≡ Ok r → r.view.direction ≡ v.direction

-- a stage keeps the parts of a text, reverses no list, and leaves the direction as it is
pub record StaysInLine (stage : Stage) : Type 0 where
  pub kept : KeepsPartsInLine stage
  pub direction : KeepsDirection stage

-- whether clusters fall along the line: a list in backward direction is drawn from its end
abbrev pub falls_on_line : Bool → Direction → Bool
falls_on_line falls direction = if is_backward direction then not falls else falls

-- whatever a stage reverses, clusters that rose along the line rise along it, and those that fell fall
abbrev pub KeepsFall : Stage → Type 0
KeepsFall stage = (v : View) (r : Read) (level : BufferClusterLevel) (falls : Bool) → IsMonotone level → stage v ≡ Ok r
    → falls_on_line (falls_after falls (parts_of level (r.events level))) r.view.direction ≡ falls_on_line falls v.direction

-- a stage keeps the parts of a text, and their order along the line
pub record KeepsPartsOnLine (stage : Stage) : Type 0 where
  pub parts : KeepsParts stage
  pub fall : KeepsFall stage

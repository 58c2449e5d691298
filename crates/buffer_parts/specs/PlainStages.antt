-- Stages that keep the parts of a text whatever its clusters are.
use Rattle.std.specs.Prelude.{◌≡◌, length, Ok}
use Rattle.buffer_glyphs.specs.declared.level.BufferClusterLevel.{BufferClusterLevel}
use Rattle.buffer_core.specs.Readings.{View, Read, Stage}
use Rattle.buffer_parts.specs.Plainly.{ArePlainlyKept}

-- whatever a stage reads, no event permutes glyphs without a merge or reverses the list, each replacement gives a glyph, and as many glyphs are left as the stage gives items
abbrev pub KeepsPlainly : Stage → Type 0
KeepsPlainly stage = (v : View) (r : Read) (level : BufferClusterLevel) → stage v ≡ Ok r → ArePlainlyKept (r.events level) (length v.items) (length r.view.items)

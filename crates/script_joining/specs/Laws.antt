-- How joining changes the glyphs' origins.
use Rattle.std.specs.Prelude.{ℕ, Bool, List}
use Rattle.buffer_glyphs.specs.declared.level.BufferClusterLevel.{BufferClusterLevel}
use Rattle.buffer_unicode_tables.specs.Tables.{Tables}
use Rattle.buffer_parts.specs.Plainly.{AreSteady}
use Rattle.buffer_core.specs.Readings.{View}
use Rattle.script_joining.specs.Joining.{letters_with_forms}

-- joining adds and deletes no glyph, and permutes none without a merge: so it keeps the parts of a text at the monotone levels
abbrev pub JoiningIsSteady : Type 0
JoiningIsSteady = (t : Tables) (mongolian : Bool) (masks pre post : List ℕ) (v : View) (level : BufferClusterLevel) → AreSteady ((letters_with_forms t mongolian masks pre post v).events level)

-- Letters of a text that the walk has passed.
use Rattle.std.specs.Prelude.{ℕ, ◌<◌, Option, None, Some}
use Rattle.buffer_glyphs.specs.Items.{Item}
use Rattle.script_joining.specs.declared.flags.Letter.{Letter}
use Rattle.script_joining.specs.Types.{JoiningType}
use Rattle.script_joining.specs.Glyphs.{type_numbered}

-- the joining type that an item stores
abbrev pub type_of_typed : Item → JoiningType
type_of_typed x = type_numbered x.auxiliary

-- the letter, if there is one, has an index below the given one
abbrev pub IsEarlier : Option Letter → ℕ → Type 0
IsEarlier None at = Unit {0}
IsEarlier (Some p) at = p.at < at

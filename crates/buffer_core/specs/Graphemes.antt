-- Graphemes, by the property words of items.
use Rattle.std.specs.Prelude.{◌==◌, not, Bool}
use Rattle.std.specs.Int.RustNames.{bit_and}
use Rattle.buffer_glyphs.specs.Items.{Item}

-- whether it belongs to the grapheme of the character before it
abbrev pub continues : Item → Bool
continues x = not (bit_and x.unicode_props 0x80 == 0)

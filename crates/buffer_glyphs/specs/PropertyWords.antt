-- The property word of an item: what its character is, as far as shaping treats it apart.
use Rattle.std.specs.Prelude.{◌==◌, ◌&&◌, not, Bool}
use Rattle.std.specs.Int.RustNames.{bit_and}
use Rattle.buffer_glyphs.specs.Items.{Item}

-- whether an item is deleted or hidden in the output: it is a default ignorable, and no substitution made it into a
-- glyph (HarfBuzz: `_hb_glyph_info_is_default_ignorable`)
abbrev pub is_default_ignorable : Item → Bool
is_default_ignorable x = not (bit_and x.unicode_props 0x20 == 0) && bit_and x.glyph_props 16 == 0

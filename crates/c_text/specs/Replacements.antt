-- The glyphs that a client sets for characters that have none to be seen.
use Rattle.std.specs.Prelude.{ℕ, ◌==◌, nat_lt, if◌then◌else◌, Option, Some, None}
use Rattle.buffer_core.specs.Sides.{Sides}
use Rattle.c_text.specs.declared.replacements.ReplacementGlyphs.{ReplacementGlyphs}

-- the glyph of default ignorables by its number: none that is set for 0, which stands for the font's space (`hb_buffer_set_invisible_glyph`)
abbrev pub invisible_numbered : ℕ → Option ℕ
invisible_numbered n = if n == 0 then None else Some n

-- a buffer with the glyphs for default ignorables and for characters that the font lacks
abbrev pub with_replacements : ReplacementGlyphs → Sides → Sides
with_replacements r s = record s { invisible = invisible_numbered r.invisible; not_found = r.not_found }

-- the status for a glyph's number: 27 where it has more than 16 bits, else 0
abbrev pub glyph_status : ℕ → ℕ
glyph_status n = if nat_lt n 0x1_0000 then 0 else 27

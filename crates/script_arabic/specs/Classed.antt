-- Glyphs with another combining class.
use Rattle.std.specs.Prelude.{ℕ}
use Rattle.buffer_glyphs.specs.declared.info.hb_glyph_info_t.{hb_glyph_info_t}

-- a glyph with a combining class
abbrev pub glyph_classed : ℕ → hb_glyph_info_t → hb_glyph_info_t
glyph_classed class g = record g { modified_combining_class = class }

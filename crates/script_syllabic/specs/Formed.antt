-- A glyph with one form.
use Rattle.std.specs.Prelude.{ℕ, ◌-◌, bit_and}
use Rattle.std.specs.Int.RustNames.{bit_or}
use Rattle.buffer_glyphs.specs.declared.info.hb_glyph_info_t.{hb_glyph_info_t}
use Rattle.buffer_glyphs.specs.Items.{without_flags}

-- a glyph whose mask loses some bits and gains those of a form
abbrev pub glyph_with_form : ℕ → ℕ → hb_glyph_info_t → hb_glyph_info_t
glyph_with_form bits form g = record g { mask = bit_or (g.mask - bit_and g.mask bits) (without_flags form) }

-- Glyphs with their positions around the base.
use Rattle.std.specs.Prelude.{ℕ, List, [], ◌∷◌}
use Rattle.buffer_glyphs.specs.declared.info.hb_glyph_info_t.{hb_glyph_info_t}

-- a glyph with a position in its `auxiliary`
abbrev pub glyph_at : ℕ → hb_glyph_info_t → hb_glyph_info_t
glyph_at p g = record g { auxiliary = p }

-- glyphs with positions
abbrev pub glyphs_at : List ℕ → List hb_glyph_info_t → List hb_glyph_info_t
glyphs_at [] gs = gs
glyphs_at (p ∷ ps) [] = []
glyphs_at (p ∷ ps) (g ∷ gs) = glyph_at p g ∷ glyphs_at ps gs

-- Glyphs of Thai with the private-use characters that replace their own.
use Rattle.std.specs.Prelude.{ℕ, List, [], ◌∷◌, map}
use Rattle.buffer_unicode_tables.specs.Tables.{Tables}
use Rattle.layout_face.specs.declared.parts.FaceParts.{FaceParts}
use Rattle.buffer_glyphs.specs.declared.info.hb_glyph_info_t.{hb_glyph_info_t}
use Rattle.buffer_glyphs.specs.Replacements.{glyph_numbered}
use Rattle.script_thai.specs.declared.thai_private.State.{State}
use Rattle.script_thai.specs.ThaiPrivate.{character_shaped, state_after}

-- the character of a glyph record
abbrev pub number_of : hb_glyph_info_t → ℕ
number_of g = g.glyph_id

-- glyphs with their characters replaced, from a state of the two machines on
abbrev pub glyphs_shaped : Tables → FaceParts → State → List hb_glyph_info_t → List hb_glyph_info_t
glyphs_shaped t font s [] = []
glyphs_shaped t font s (g ∷ gs) = glyph_numbered g (character_shaped t font s g.glyph_id (map number_of gs)) ∷ glyphs_shaped t font (state_after s g.glyph_id) gs

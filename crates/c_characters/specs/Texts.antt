-- Characters in a buffer.
use Rattle.std.specs.Prelude.{◌&&◌, Bool, true, nat_le, List, [], ◌∷◌, length, map}
use Rattle.buffer_core.specs.Sides.{Sides, has_room}
use Rattle.buffer_core.specs.Text.{added_glyph}
use Rattle.buffer_glyphs.specs.declared.info.hb_glyph_info_t.{hb_glyph_info_t}
use Rattle.c_characters.specs.Characters.{TextCharacter}

-- the glyph of an appended character
abbrev pub glyph_of : TextCharacter → hb_glyph_info_t
glyph_of c = added_glyph c.character c.cluster

-- the glyphs of appended characters
abbrev pub added_characters : List TextCharacter → List hb_glyph_info_t
added_characters cs = map glyph_of cs

-- whether each cluster's number fits 32 bits
abbrev pub clusters_fit : List TextCharacter → Bool
clusters_fit [] = true
clusters_fit (c ∷ cs) = nat_le c.cluster 0xFFFF_FFFF && clusters_fit cs

-- whether characters may be appended to the glyphs of a buffer
abbrev pub fits_characters : List TextCharacter → Sides → Bool
fits_characters cs s = has_room (length cs) s && clusters_fit cs

-- Advances that a client gives a font's glyphs.
use Rattle.std.specs.Prelude.{ℕ, ◌==◌, ◌&&◌, nat_lt, Bool, if◌then◌else◌, List, [], ◌∷◌, map, is_some}
use Rattle.layout_common.specs.Rows.{value_of}
use Rattle.layout_face.specs.declared.parts.FaceParts.{FaceParts}
use Rattle.c_text.specs.declared.types.kus_glyph_advance_t.{kus_glyph_advance_t}

-- the advance of a glyph by a client's list: the last that names the glyph, its own where none does
abbrev pub advance_by : List kus_glyph_advance_t → ℕ → ℕ → ℕ
advance_by [] glyph own = own
advance_by (a ∷ given) glyph own = advance_by given glyph (if glyph == a.glyph then a.advance else own)

-- a font with a client's advances of glyphs in its horizontal metrics (OpenType, table hmtx, advanceWidth)
abbrev pub with_advances : List kus_glyph_advance_t → FaceParts → FaceParts
with_advances given font = record font { h = map (λ r. record { glyph = r.glyph; value = advance_by given r.glyph r.value }) font.h }

-- whether a font has an advance of a glyph
abbrev pub has_advance : FaceParts → ℕ → Bool
has_advance font glyph = nat_lt glyph 0x1_0000 && is_some (value_of glyph font.h)

-- the number of why an advance isn't taken: 27 for a glyph that the font has no advance of, 28 for one that 16 bits don't hold; 0 where it is taken
abbrev pub advance_refusal : FaceParts → kus_glyph_advance_t → ℕ
advance_refusal font a = if has_advance font a.glyph then (if nat_lt a.advance 0x1_0000 then 0 else 28) else 27

-- the number of why a list isn't taken: that of its first advance that isn't; 0 where each is
abbrev pub advances_refusal : FaceParts → List kus_glyph_advance_t → ℕ
advances_refusal font [] = 0
advances_refusal font (a ∷ given) = if advance_refusal font a == 0 then advances_refusal font given else advance_refusal font a

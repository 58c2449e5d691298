-- Glyphs that a client gives a font's characters and variation sequences.
use Rattle.std.specs.Prelude.{ℕ, ◌≡◌, ◌<◌, ◌==◌, ◌&&◌, ◌||◌, nat_lt, Bool, if◌then◌else◌, List, [], ◌∷◌, length, take, Option, Some, None}
use lib.Utf8.{scalar}
use Rattle.layout_face.specs.CharacterMap.{with_nominal_glyph, with_variation_glyph}
use Rattle.layout_face.specs.declared.parts.FaceParts.{FaceParts}
use Rattle.c_text.specs.declared.types.kus_character_glyph_t.{kus_character_glyph_t}

-- the glyph of a number, none for one past 16 bits
abbrev pub glyph_numbered : ℕ → Option ℕ
glyph_numbered n = if nat_lt n 0x1_0000 then Some n else None

-- whether a number is a glyph's, or says that there is none (`HB_CODEPOINT_INVALID`)
abbrev pub is_glyph_or_none : ℕ → Bool
is_glyph_or_none n = nat_lt n 0x1_0000 || n == 0xFFFF_FFFF

-- a font where a character, or with a selector a variation sequence, has the glyph that a client gives, or none (OpenType, table cmap)
abbrev pub with_glyph : kus_character_glyph_t → FaceParts → FaceParts
with_glyph g font =
    if g.selector == 0 then with_nominal_glyph g.character (glyph_numbered g.glyph) font
    else with_variation_glyph g.character g.selector (glyph_numbered g.glyph) font

-- a font where a client's list gives glyphs, one after another: of a character that is named twice the last holds
abbrev pub with_glyphs : List kus_character_glyph_t → FaceParts → FaceParts
with_glyphs [] font = font
with_glyphs (g ∷ given) font = with_glyphs given (with_glyph g font)

-- the number of why a glyph isn't taken: 29 where the character or the selector is no scalar value, 27 for a number that no glyph has; 0 where it is taken
abbrev pub glyph_refusal : kus_character_glyph_t → ℕ
glyph_refusal g = if scalar g.character && scalar g.selector then (if is_glyph_or_none g.glyph then 0 else 27) else 29

-- the number of why a list isn't taken: that of its first glyph that isn't; 0 where each is
abbrev pub glyphs_refusal : List kus_character_glyph_t → ℕ
glyphs_refusal [] = 0
glyphs_refusal (g ∷ given) = if glyph_refusal g == 0 then glyphs_refusal given else glyph_refusal g

-- the glyphs at the front of a list are set, and those after them are not
pub record AreSetAtFront (given : List kus_character_glyph_t) (old new : FaceParts) : Type 0 where
  pub count : ℕ
  pub more : count < length given
  pub same : new ≡ with_glyphs (take count given) old

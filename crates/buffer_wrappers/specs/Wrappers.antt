-- What holds of a buffer that is wrapped as a text or as a result.
use Rattle.std.specs.Prelude.{◌≡◌, ◌≤◌, false, IsTrue}
use Rattle.std.specs.List.{All}
use lib.Utf8.{scalar}
use Rattle.buffer_glyphs.specs.declared.info.hb_glyph_info_t.{hb_glyph_info_t}
use Rattle.buffer_core.specs.Sides.{Sides, all_glyphs}
use Rattle.buffer_core.specs.Text.{added_glyph}

-- no output is open
pub record IsClosed (s : Sides) : Type 0 where
  pub closed : s.is_open ≡ false

-- a glyph is an appended character, in some cluster
pub record IsCharacter (g : hb_glyph_info_t) : Type 0 where
  pub plain : g ≡ added_glyph g.glyph_id g.cluster
  pub scalar_value : IsTrue (scalar g.glyph_id)

-- a glyph with a number that a glyph can have
abbrev pub IsGlyph : hb_glyph_info_t → Type 0
IsGlyph g = g.glyph_id ≤ 65535

-- each glyph is such
abbrev pub AreGlyphs : Sides → Type 0
AreGlyphs s = All IsGlyph (all_glyphs s)

-- no output is open, no call was refused for length, and there are characters alone
pub record IsText (s : Sides) : Type 0 where
  pub closed : s.is_open ≡ false
  pub unrefused : s.has_refused ≡ false
  pub characters : All IsCharacter (all_glyphs s)

-- The names of glyphs (OpenType, table post).
use Rattle.std.specs.Prelude.{ℕ, List}

-- a glyph, and the bytes of its name
pub record GlyphName : Type 0 where
  pub glyph : ℕ
  pub name : List ℕ

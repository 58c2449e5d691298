-- Characters whose glyphs are remembered.
use Rattle.std.specs.Prelude.{◌≡◌, List, Option, Some}
use Rattle.std.specs.List.{All}
use Rattle.buffer_properties.specs.Normalizer.{Normalizer}
use Rattle.shape_normalize.specs.declared.known_glyphs.KnownGlyph.{KnownGlyph}

-- a row has the font's glyph for its character, if it has a character
abbrev pub HasGlyph : Normalizer → Option KnownGlyph → Type 0
HasGlyph c row = (known : KnownGlyph) → row ≡ Some known → known.glyph ≡ c.glyph_of known.character

-- each row has the font's glyph for its character
pub record HaveGlyphs (c : Normalizer) (rows : List (Option KnownGlyph)) : Type 0 where
  pub each : All (HasGlyph c) rows

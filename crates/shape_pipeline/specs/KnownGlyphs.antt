-- Glyphs with the properties that GDEF gives them.
use Rattle.std.specs.Prelude.{◌≡◌, List}
use Rattle.std.specs.List.{All}
use Rattle.layout_face.specs.declared.parts.FaceParts.{FaceParts}
use Rattle.layout_gsub.specs.Replacements.{glyph_props_of}
use Rattle.shape_pipeline.specs.declared.classed_glyphs.KnownGlyph.{KnownGlyph}

-- a row has the properties that GDEF gives its glyph
pub record IsKnown (font : FaceParts) (row : KnownGlyph) : Type 0 where
  pub props : row.props.0 ≡ glyph_props_of font.gdef row.glyph

-- each row has the properties of its glyph
pub record AreKnown (font : FaceParts) (rows : List KnownGlyph) : Type 0 where
  pub each : All (IsKnown font) rows

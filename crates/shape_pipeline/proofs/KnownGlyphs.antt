-- Rows of glyphs that stay true, and what they say of a glyph.
use Rattle.std.proofs.Common.{ℕ, ◌≡◌, ◌<◌, List, length, get_or, set, replicate, ap, ◌∙◌}
use Rattle.std.proofs.lemmas.List.Elements.{All-get_or, All-replicate, All-set}
use Rattle.layout_face.specs.declared.parts.FaceParts.{FaceParts}
use Rattle.layout_gsub.specs.Replacements.{glyph_props_of}
use Rattle.shape_pipeline.specs.declared.classed_glyphs.KnownGlyph.{KnownGlyph}
use Rattle.shape_pipeline.specs.KnownGlyphs.{AreKnown, IsKnown}

pub all_known : (font : FaceParts) (n : ℕ) (row : KnownGlyph) → IsKnown font row → AreKnown font (replicate n row)
all_known font n row h = record { each = All-replicate (IsKnown font) n row h }

pub row_known : (font : FaceParts) (i glyph : ℕ) (rows : List KnownGlyph) (d : KnownGlyph) → i < length rows → AreKnown font rows → (get_or rows i d).glyph ≡ glyph → (get_or rows i d).props.0 ≡ glyph_props_of font.gdef glyph
row_known font i glyph rows d lt h e = (All-get_or (IsKnown font) rows i d lt h.each).props ∙ ap (glyph_props_of font.gdef) e

pub row_made : (font : FaceParts) (i : ℕ) (rows : List KnownGlyph) (row : KnownGlyph) → AreKnown font rows → IsKnown font row → AreKnown font (set rows i row)
row_made font i rows row h k = record { each = All-set (IsKnown font) rows i row k h.each }

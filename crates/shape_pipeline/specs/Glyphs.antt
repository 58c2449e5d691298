-- The pipeline stages that map characters to glyphs and substitute them.
use Rattle.std.specs.Prelude.{[], ◌∷◌}
use Rattle.buffer_core.specs.Readings.{Stage, always}
use Rattle.layout_substitution.specs.Substituting.{substitution_stages}
use Rattle.shape_fallback.specs.Classes.{with_fallback_classes}
use Rattle.buffer_glyphs.specs.Items.{Item}
use Rattle.layout_face.specs.declared.parts.FaceParts.{FaceParts}
use Rattle.layout_gsub.specs.GlyphClasses.{item_with_font_class, with_font_classes}
use Rattle.shape_glyphs.specs.Glyphs.{as_glyph, with_glyphs, with_synthesized_classes}
use Rattle.shape_pipeline.specs.Chains.{in_order, only_if}
use Rattle.shape_pipeline.specs.Shaping.{Shaping, pauses_of}

-- the pipeline stage of glyphs: marks get the classes of fallback positioning, if it will be used, and each character
-- is replaced by its glyph
unfoldable pub glyphs_taken : Shaping → Stage
glyphs_taken p = in_order (
    only_if p.choices.fallback_mark_positioning (always with_fallback_classes) ∷
    always with_glyphs ∷
    [])

-- an item with the glyph chosen for its character, that glyph's GDEF class and no ligature word
abbrev pub as_classed_glyph : FaceParts → Item → Item
as_classed_glyph font x = item_with_font_class font (as_glyph x)

-- the pipeline stage of substitution: glyph classes by GDEF or by the characters, then the GSUB lookups with the
-- shaper's pauses
unfoldable pub glyphs_substituted : Shaping → Stage
glyphs_substituted p = in_order (
    always (with_font_classes p.font) ∷
    only_if p.choices.fallback_glyph_classes (always with_synthesized_classes) ∷
    substitution_stages p.font p.map (pauses_of p) ∷
    [])

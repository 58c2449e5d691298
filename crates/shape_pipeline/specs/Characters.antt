-- The pipeline stages on characters, up to normalizing.
use Rattle.std.specs.Prelude.{◌&&◌, if◌then◌else◌, [], ◌∷◌, None, codes}
use lib.Utf8.{scalar}
use Rattle.layout_face.specs.Glyphs.{nominal_glyph, variation_glyph}
use Rattle.buffer_core.specs.Readings.{View, Read, Stage, always}
use Rattle.buffer_properties.specs.Normalizer.{Normalizer}
use Rattle.layout_map.specs.Masks.{mask_at_one}
use Rattle.shape_text.specs.Masks.{with_one_mask}
use Rattle.shape_text.specs.Properties.{with_properties}
use Rattle.shape_text.specs.Circle.{first_circle}
use Rattle.shape_text.specs.Clusters.{with_clusters}
use Rattle.shape_text.specs.NativeOrder.{native_order}
use Rattle.shape_text.specs.Rotation.{with_rotated_characters}
use Rattle.shape_normalize.specs.Rounds.{normalization}
use Rattle.shape_pipeline.specs.Chains.{in_order}
use Rattle.shape_pipeline.specs.Limits.{initial_view}
use Rattle.shape_pipeline.specs.Shaping.{Shaping, preprocessing_stage}

-- the first pipeline stage: limits by the length, masks of the features for all glyphs, properties, a dotted circle
-- before a mark, clusters of graphemes, and the script's direction
unfoldable pub text_begun : Shaping → Stage
text_begun p = in_order (
    always initial_view ∷
    always (with_one_mask p.map.global_mask) ∷
    always (with_properties p.tables) ∷
    first_circle p.tables p.font p.settings.flags p.settings.pre_context ∷
    always with_clusters ∷
    always (native_order p.settings.script) ∷
    [])

-- the normalizer's requests, answered by the font, the tables and the shaper; a number that is no character has no
-- glyph and no decomposition, and composes with nothing
abbrev pub normalizer : Shaping → Normalizer
normalizer p = record {
  tables = p.tables;
  mode = p.traits.normalization;
  glyph_of = λ u. if scalar u then nominal_glyph u p.font else None;
  variant_of = λ u s. if scalar u && scalar s then variation_glyph u s p.font else None;
  invisible = p.settings.invisible;
  unjoined_glyph = p.settings.not_found_variation_selector;
  not_found = p.settings.not_found;
  splits = λ u. if scalar u then p.rules.splits p.tables u else None;
  composes = λ a b. if scalar a && scalar b then p.rules.composes p.tables a b else None;
  reorders = p.rules.reorders;
}

-- the view with characters mirrored or in vertical forms, by the text's direction
abbrev pub turned_to_line : Shaping → View → Read
turned_to_line p v = with_rotated_characters p.tables p.font p.direction (mask_at_one (codes "rtlm") p.map) p.choices.has_vert v

-- the pipeline stage that chooses glyphs: the shaper's preprocessing, mirrored and vertical characters, and normalizing
unfoldable pub characters_chosen : Shaping → Stage
characters_chosen p = in_order (
    preprocessing_stage p ∷
    always (turned_to_line p) ∷
    normalization (normalizer p) ∷
    [])

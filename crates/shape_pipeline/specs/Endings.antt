-- The end of shaping.
use Rattle.std.specs.Prelude.{[], ◌∷◌}
use Rattle.buffer_core.specs.Readings.{Stage, always}
use Rattle.shape_glyphs.specs.Flags.{with_flags_spread}
use Rattle.shape_glyphs.specs.Ignorables.{ignorables_hidden}
use Rattle.shape_glyphs.specs.Selectors.{with_selectors}
use Rattle.shape_pipeline.specs.Chains.{in_order}
use Rattle.shape_pipeline.specs.Limits.{final_view}
use Rattle.shape_pipeline.specs.Shaping.{Shaping, postprocessing_stage}

-- the last pipeline stage: selectors that the font doesn't combine are shown, default ignorables hidden or deleted, the
-- shaper's postprocessing done, glyph flags shared within clusters, and the limits reset
unfoldable pub text_ended : Shaping → Stage
text_ended p = in_order (
    always (with_selectors p.settings.not_found_variation_selector) ∷
    always (ignorables_hidden p.settings.flags p.settings.invisible p.font) ∷
    postprocessing_stage p ∷
    always with_flags_spread ∷
    always (final_view p.direction) ∷
    [])

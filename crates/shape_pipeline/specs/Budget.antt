-- What a text's reading leaves of its budget of nested lookups (`max_ops`), which the last stage resets.
use Rattle.std.specs.Prelude.{ℤ, [], ◌∷◌, Result, Ok, Err}
use Rattle.buffer_glyphs.specs.declared.cause.ShapeCause.{ShapeCause}
use Rattle.buffer_core.specs.Readings.{BufferState, Reading, Stage, always}
use Rattle.shape_glyphs.specs.Flags.{with_flags_spread}
use Rattle.shape_glyphs.specs.Ignorables.{ignorables_hidden}
use Rattle.shape_glyphs.specs.Selectors.{with_selectors}
use Rattle.shape_pipeline.specs.Chains.{in_order}
use Rattle.shape_pipeline.specs.Glyphs.{glyphs_substituted, glyphs_taken}
use Rattle.shape_pipeline.specs.Masks.{ranges_set}
use Rattle.shape_pipeline.specs.Reading.{before_ranges, clusters_after, positioning_stage}
use Rattle.shape_pipeline.specs.Shaping.{Shaping, postprocessing_stage}

-- the last pipeline stage, but for the reset of the limits
unfoldable pub glyphs_hidden : Shaping → Stage
glyphs_hidden p = in_order (
    always (with_selectors p.settings.not_found_variation_selector) ∷
    always (ignorables_hidden p.settings.flags p.settings.invisible p.font) ∷
    postprocessing_stage p ∷
    always with_flags_spread ∷
    [])

-- the pipeline stages after the masks of ranges, but for the reset of the limits
unfoldable pub before_reset : Shaping → Stage
before_reset p = in_order (
    glyphs_taken p ∷
    glyphs_substituted p ∷
    positioning_stage p ∷
    glyphs_hidden p ∷
    [])

-- the reading of a run, but for the reset of the limits
unfoldable pub reading_before_reset : Shaping → BufferState → Reading
reading_before_reset p run = in_order (
    before_ranges p ∷
    ranges_set p (clusters_after (before_ranges p run.view) run) ∷
    before_reset p ∷
    []) run.view

-- the budget that a reading leaves
abbrev pub left_by : Reading → Result ℤ ShapeCause
left_by (Ok r) = Ok r.view.max_ops
left_by (Err cause) = Err cause

-- the budget of nested lookups that shaping a run leaves, or the cause of the refusal
abbrev pub budget_left : Shaping → BufferState → Result ℤ ShapeCause
budget_left p run = left_by (reading_before_reset p run)

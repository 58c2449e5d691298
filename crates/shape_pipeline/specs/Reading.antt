-- The whole reading of a text.
use Rattle.std.specs.Prelude.{ℕ, List, [], ◌∷◌, Ok, Err}
use Rattle.buffer_glyphs.specs.Origins.{numbers}
use Rattle.buffer_glyphs.specs.Events.{origins_after}
use Rattle.buffer_core.specs.Readings.{Reading, BufferState, Stage}
use Rattle.shape_pipeline.specs.Chains.{in_order}
use Rattle.shape_pipeline.specs.Characters.{characters_chosen, text_begun}
use Rattle.shape_pipeline.specs.Endings.{text_ended}
use Rattle.shape_pipeline.specs.Glyphs.{glyphs_substituted, glyphs_taken}
use Rattle.shape_pipeline.specs.Masks.{masks_set, ranges_set}
use Rattle.shape_pipeline.specs.Positioning.{positions_adjusted, positions_begun, positions_ended}
use Rattle.shape_pipeline.specs.Shaping.{Shaping}

-- the pipeline stages before the masks of ranges
unfoldable pub before_ranges : Shaping → Stage
before_ranges p = in_order (
    text_begun p ∷
    characters_chosen p ∷
    masks_set p ∷
    [])

-- the pipeline stages that position glyphs
unfoldable pub positioning_stage : Shaping → Stage
positioning_stage p = in_order (
    positions_begun p ∷
    positions_adjusted p ∷
    positions_ended p ∷
    [])

-- the pipeline stages after the masks of ranges: glyphs, substitution, positions, the end
unfoldable pub after_ranges : Shaping → Stage
after_ranges p = in_order (
    glyphs_taken p ∷
    glyphs_substituted p ∷
    positioning_stage p ∷
    text_ended p ∷
    [])

-- the reading of a text by the cluster numbers at the masks of ranges; nothing else depends on them
unfoldable pub shaping_stage : Shaping → List ℕ → Stage
shaping_stage p clusters = in_order (
    before_ranges p ∷
    ranges_set p clusters ∷
    after_ranges p ∷
    [])

-- the cluster numbers of a run after a reading
abbrev pub clusters_after : Reading → BufferState → List ℕ
clusters_after (Ok r) run = numbers (origins_after run.asks run.level (r.events run.level) run.origins)
clusters_after (Err e) run = []

-- the reading of a run
unfoldable pub reading : Shaping → BufferState → Reading
reading p run = shaping_stage p (clusters_after (before_ranges p run.view) run) run.view

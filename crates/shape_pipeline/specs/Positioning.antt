-- The pipeline stages that position glyphs.
use Rattle.std.specs.Prelude.{ℕ, ◌==◌, ◌&&◌, Bool, if◌then◌else◌, [], ◌∷◌, length, reverse, Some}
use Rattle.buffer_common.specs.Direction.{is_backward, is_forward}
use Rattle.buffer_common.specs.declared.direction.Direction.{Direction}
use Rattle.buffer_glyphs.specs.Events.{Reverse}
use Rattle.buffer_core.specs.Readings.{View, Read, Stage, always, with_events}
use Rattle.buffer_core.specs.Sides.{zero_positions}
use Rattle.layout_offsets.specs.Starting.{links_cleared}
use Rattle.layout_offsets.specs.Finishing.{links_followed}
use Rattle.layout_positioning.specs.Positioning.{positioning_stages}
use Rattle.shape_glyphs.specs.Advances.{with_default_positions}
use Rattle.shape_glyphs.specs.Widths.{zero_widths}
use Rattle.shape_fallback.specs.Spaces.{with_spaces}
use Rattle.shape_fallback.specs.Zeroing.{with_marks_zeroed}
use Rattle.shape_fallback.specs.Marks.{components_direction, with_positioned_marks}
use Rattle.script_plan.specs.declared.planned.TheConstants.{HB_OT_SHAPE_ZERO_WIDTH_MARKS_BY_GDEF_EARLY, HB_OT_SHAPE_ZERO_WIDTH_MARKS_BY_GDEF_LATE}
use Rattle.shape_pipeline.specs.Chains.{in_order, only_if}
use Rattle.shape_pipeline.specs.Shaping.{Shaping, pauses_of}

-- the view with all positions zero
abbrev pub with_zero_positions : View → Read
with_zero_positions v = with_events [] (record v { positions = zero_positions (length v.positions) })

-- the pipeline stage of advances: each glyph's, and those of spaces that the font lacks; no glyph is attached
unfoldable pub positions_begun : Shaping → Stage
positions_begun p = in_order (
    always with_zero_positions ∷
    always (with_default_positions p.font) ∷
    always (with_spaces p.font) ∷
    always links_cleared ∷
    [])

-- ---- GPOS, and the advances of marks

-- a mark whose advance is zeroed is shifted back by it: where the font has no positioning of its own and the text runs
-- forward
abbrev pub adjusts_marks : Shaping → Direction → Bool
adjusts_marks p d = p.choices.adjust_mark_positioning_when_zeroing && is_forward d

-- the view with the advances of marks zeroed
abbrev pub marks_zeroed : Shaping → View → Read
marks_zeroed p v = with_marks_zeroed (adjusts_marks p v.direction) v

-- the advances of marks are zeroed at a time
abbrev pub zeroes_marks : ℕ → Shaping → Bool
zeroes_marks time p = p.choices.zero_marks && p.traits.zero_width_marks == time

-- the pipeline stage of GPOS: the advances of marks are zeroed before or after it, as the shaper says
unfoldable pub positions_adjusted : Shaping → Stage
positions_adjusted p = in_order (
    only_if (zeroes_marks HB_OT_SHAPE_ZERO_WIDTH_MARKS_BY_GDEF_EARLY p) (always (marks_zeroed p)) ∷
    only_if p.choices.apply_gpos (positioning_stages p.font p.map (pauses_of p)) ∷
    only_if (zeroes_marks HB_OT_SHAPE_ZERO_WIDTH_MARKS_BY_GDEF_LATE p) (always (marks_zeroed p)) ∷
    [])

-- ---- the line

-- the view with marks positioned by fallback
abbrev pub marks_positioned : Shaping → View → Read
marks_positioned p v = with_positioned_marks p.font (components_direction p.direction (Some p.script)) (adjusts_marks p v.direction) v

-- the view with its glyphs in visual order, from left to right
abbrev pub visual_order : View → Read
visual_order v = if is_backward v.direction then with_events (Reverse ∷ []) (record v { items = reverse v.items; positions = reverse v.positions }) else with_events [] v

-- the last stage of positions: default ignorables are zeroed, the offsets of attached glyphs added, marks positioned by
-- fallback, and the glyphs put in visual order
unfoldable pub positions_ended : Shaping → Stage
positions_ended p = in_order (
    always (zero_widths p.settings.flags) ∷
    always links_followed ∷
    only_if p.choices.fallback_mark_positioning (always (marks_positioned p)) ∷
    always visual_order ∷
    [])

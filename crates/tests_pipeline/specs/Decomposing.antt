-- A shaper that prefers decomposed characters.
use Rattle.std.specs.Prelude.{true, None}
use Rattle.buffer_properties.specs.declared.normal_mode.NormalizationMode.TheVariants as mode
use Rattle.script_plan.specs.Traits.{ShaperTraits}
use Rattle.script_plan.specs.declared.planned.TheConstants.{HB_OT_SHAPE_ZERO_WIDTH_MARKS_BY_GDEF_LATE}

-- the shaper's choices: decomposed characters, else those of the default shaper
abbrev pub decomposing_traits : ShaperTraits
decomposing_traits = record { normalization = mode.Decomposed; gpos_tag = None; zero_width_marks = HB_OT_SHAPE_ZERO_WIDTH_MARKS_BY_GDEF_LATE; fallback_position = true }

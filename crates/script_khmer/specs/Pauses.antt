-- The pause that reorders Khmer syllables (OpenType specification, script development for Khmer).
use Rattle.std.specs.Prelude.{Option, None, Some}
use Rattle.buffer_common.specs.declared.constants.BufferFlags.{BufferFlags}
use Rattle.layout_face.specs.declared.parts.FaceParts.{FaceParts}
use Rattle.buffer_core.specs.Readings.{Stage}
use Rattle.script_syllabic.specs.declared.circles.CircleRule.{CircleRule}
use Rattle.script_syllabic.specs.Circles.{circles_by}
use Rattle.script_syllabic.specs.Rules.{circle_rule}
use Rattle.script_syllabic.specs.Syllables.{then_syllables}
use Rattle.script_categories.specs.declared.ot_category_t.TheConstants as ot_category
use Rattle.script_categories.specs.declared.syllable_kinds.khmer.TheConstants as khmer
use Rattle.script_khmer.specs.declared.khmer.KhmerMasks.{KhmerMasks}
use Rattle.script_khmer.specs.Khmer.{khmer_syllable}

-- the rule of dotted circles for Khmer
abbrev pub khmer_circles : FaceParts → BufferFlags → Option CircleRule
khmer_circles font flags = circle_rule font flags khmer.BROKEN_CLUSTER ot_category.OT_DOTTEDCIRCLE (Some ot_category.OT_Repha) None

-- the stage that inserts dotted circles and reorders Khmer syllables (HarfBuzz: reorder_khmer)
abbrev pub khmer_order : FaceParts → BufferFlags → KhmerMasks → Stage
khmer_order font flags masks = then_syllables (circles_by (khmer_circles font flags)) (khmer_syllable masks)

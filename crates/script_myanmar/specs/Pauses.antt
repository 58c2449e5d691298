-- The pause that reorders Myanmar syllables (OpenType specification, script development for Myanmar).
use Rattle.std.specs.Prelude.{Option, None}
use Rattle.buffer_common.specs.declared.constants.BufferFlags.{BufferFlags}
use Rattle.layout_face.specs.declared.parts.FaceParts.{FaceParts}
use Rattle.buffer_core.specs.Readings.{Stage}
use Rattle.script_syllabic.specs.declared.circles.CircleRule.{CircleRule}
use Rattle.script_syllabic.specs.Circles.{circles_by}
use Rattle.script_syllabic.specs.Rules.{circle_rule}
use Rattle.script_syllabic.specs.Syllables.{then_syllables}
use Rattle.script_categories.specs.declared.ot_category_t.TheConstants as ot_category
use Rattle.script_categories.specs.declared.syllable_kinds.myanmar.TheConstants as myanmar
use Rattle.script_myanmar.specs.Myanmar.{myanmar_syllable}

-- the rule of dotted circles for Myanmar
abbrev pub myanmar_circles : FaceParts → BufferFlags → Option CircleRule
myanmar_circles font flags = circle_rule font flags myanmar.BROKEN_CLUSTER ot_category.OT_DOTTEDCIRCLE None None

-- the stage that inserts dotted circles and reorders Myanmar syllables (HarfBuzz: reorder_myanmar)
abbrev pub myanmar_order : FaceParts → BufferFlags → Stage
myanmar_order font flags = then_syllables (circles_by (myanmar_circles font flags)) myanmar_syllable

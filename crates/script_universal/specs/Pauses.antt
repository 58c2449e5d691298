-- The pauses of the universal shaper (OpenType specification, script development for the Universal Shaping Engine).
use Rattle.std.specs.Prelude.{ℕ, List, Option, None, Some}
use Rattle.buffer_common.specs.declared.constants.BufferFlags.{BufferFlags}
use Rattle.layout_face.specs.declared.parts.FaceParts.{FaceParts}
use Rattle.buffer_core.specs.Readings.{Stage, and_then, always, as_it_is}
use Rattle.script_syllabic.specs.declared.circles.CircleRule.{CircleRule}
use Rattle.script_syllabic.specs.Circles.{circles_by}
use Rattle.script_syllabic.specs.Rules.{circle_rule}
use Rattle.script_syllabic.specs.Syllables.{then_syllables}
use Rattle.script_categories.specs.declared.category.TheConstants as category
use Rattle.script_categories.specs.declared.syllable_kinds.universal.TheConstants as universal
use Rattle.buffer_stages.specs.SyllableBuffers.{with_rule}
use Rattle.script_categories.specs.declared.shaper.hb_ot_script_shaper_t.{hb_ot_script_shaper_t}
use Rattle.script_syllabic.specs.declared.forms.FormMasks.{FormMasks}
use Rattle.script_syllabic.specs.Features.{rphf_masked, topography}
use Rattle.script_syllabic.specs.Spans.{universal_set}
use Rattle.script_universal.specs.Reordering.{universal_syllable}

-- the rule of dotted circles for the universal shaper
abbrev pub universal_circles : FaceParts → BufferFlags → Option CircleRule
universal_circles font flags = circle_rule font flags universal.BROKEN_CLUSTER category.B (Some category.R) None

-- the stage that inserts dotted circles and reorders the universal shaper's syllables (HarfBuzz: reorder_use)
abbrev pub universal_order : FaceParts → BufferFlags → Stage
universal_order font flags = then_syllables (circles_by (universal_circles font flags)) universal_syllable

-- the stage of topographical forms, where the script's letters don't join
abbrev pub forms_set : Option FormMasks → Stage
forms_set None = as_it_is
forms_set (Some masks) = always (with_rule (topography masks))

-- the stage that sets syllable bytes, the masks of rphf and the topographical forms (HarfBuzz: setup_syllables_use)
abbrev pub universal_syllables_set : (hb_ot_script_shaper_t → List ℕ → ℕ → ℕ × ℕ) → ℕ → Option FormMasks → Stage
universal_syllables_set span_of rphf forms v = and_then (then_syllables (universal_set span_of) (rphf_masked rphf) v) (forms_set forms)

-- Which texts a plan is made for.
use Rattle.std.specs.Prelude.{◌≡◌, Option, unwrap_or}
use Rattle.buffer_common.specs.declared.script.Script.{Script}
use Rattle.buffer_common.specs.declared.script.TheConstants.{UNKNOWN}
use Rattle.buffer_core.specs.Segment.{after_guess_segment_properties}
use Rattle.buffer_core.specs.Sides.{Sides}
use Rattle.script_plan.specs.declared.plan.hb_ot_shape_plan_t.{hb_ot_shape_plan_t}

-- the script, `UNKNOWN` where there is none
abbrev pub script_or_unknown : Option Script → Script
script_or_unknown script = unwrap_or script UNKNOWN

-- a plan is made for the direction and the script of a text, set or guessed
pub record Fits {S D : Type 0} (plan : hb_ot_shape_plan_t S D) (text : Sides) : Type 0 where
  pub direction : (after_guess_segment_properties text).direction ≡ plan.script_plan.direction
  pub script : script_or_unknown (after_guess_segment_properties text).script ≡ script_or_unknown plan.script_plan.script

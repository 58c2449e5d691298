-- What a text is shaped by.
use Rattle.std.specs.Prelude.{List}
use Rattle.buffer_common.specs.declared.direction.Direction.{Direction}
use Rattle.buffer_common.specs.declared.script.Script.{Script}
use Rattle.buffer_tags.specs.declared.feature.Feature.{Feature}
use Rattle.buffer_unicode_tables.specs.Tables.{Tables}
use Rattle.layout_face.specs.declared.parts.FaceParts.{FaceParts}
use Rattle.buffer_core.specs.Readings.{Stage}
use Rattle.layout_map.specs.Compiled.{OtMapValue}
use Rattle.buffer_stages.specs.Settings.{TextSettings}
use Rattle.buffer_stages.specs.Pauses.{Pauses}
use Rattle.script_plan.specs.declared.plan.PlanChoices.{PlanChoices}
use Rattle.script_plan.specs.Traits.{ShaperTraits}
use Rattle.script_plan.specs.Rules.{ShaperRules, Spans}

-- all that a text is shaped by; clusters, cluster level and requests for glyph flags are not among it
pub record Shaping : Type 0 where
  pub font : FaceParts
  pub tables : Tables
  -- the settings of the text
  pub settings : TextSettings
  -- the plan: its direction, its script, `UNKNOWN` where it has none, its map, and its choices
  pub direction : Direction
  pub script : Script
  pub map : OtMapValue
  pub choices : PlanChoices
  -- the requested features
  pub features : List Feature
  -- the shaper: its choices and its rules; and the machines that find syllables
  pub traits : ShaperTraits
  pub rules : ShaperRules
  pub spans : Spans

-- the stages of the shaper's pauses
abbrev pub pauses_of : Shaping → Pauses
pauses_of p = p.rules.pauses p.font p.tables p.spans p.settings

-- the stage before normalizing
abbrev pub preprocessing_stage : Shaping → Stage
preprocessing_stage p = p.rules.preprocesses p.font p.tables p.settings

-- the stage of the shaper's masks
abbrev pub shaper_masks_set : Shaping → Stage
shaper_masks_set p = p.rules.sets_masks p.font p.tables p.settings

-- the stage after positioning
abbrev pub postprocessing_stage : Shaping → Stage
postprocessing_stage p = p.rules.postprocesses p.font p.settings

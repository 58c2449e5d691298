-- Plans of shapers that find no syllables, at the seam of two texts.
use Rattle.std.specs.Prelude.{⊤, ◌≡◌, Bool, List, Option}
use Rattle.buffer_common.specs.declared.direction.Direction.{Direction}
use Rattle.buffer_common.specs.declared.script.Script.{Script}
use Rattle.buffer_common.specs.declared.tag.Tag.{Tag}
use Rattle.buffer_tags.specs.declared.feature.Feature.{Feature as UserFeature}
use Rattle.buffer_unicode_tables.specs.Tables.{Tables}
use Rattle.buffer_stages.specs.Settings.{TextSettings}
use Rattle.layout_laws.specs.Breaks.Seams.{ArePausesAtSeam, IsDivisibleAtSeam}
use Rattle.layout_face.specs.declared.parts.FaceParts.{FaceParts}
use Rattle.layout_map.specs.Compiled.{OtMapValue}
use Rattle.layout_map.specs.declared.stages.StageMap.{StageMap}
use Rattle.layout_substitution.specs.Substituting.{substitution_stages}
use Rattle.script_categories.specs.declared.shaper.hb_ot_script_shaper_t.{hb_ot_script_shaper_t}
use Rattle.script_plan.specs.declared.plan.hb_script_plan_t.{hb_script_plan_t}
use Rattle.script_plan.specs.Plans.{planned_map}
use Rattle.script_plan.specs.Rules.{Spans}
use Rattle.script_dispatch.specs.Hooks.{pauses_by}
use Rattle.script_dispatch.specs.declared.any_shaper.hb_ot_any_shaper_t.{hb_ot_any_shaper_t}
use Rattle.script_dispatch.specs.Requests.{any_kind}
use Rattle.script_dispatch.specs.Rules.{rules_of}
use Rattle.shape_laws.specs.Breaks.Pauses.{EndItemwise}
use Rattle.shape_laws.specs.Breaks.PlannedPauses.{FindsNoSyllables}
use Rattle.shape_laws.specs.Breaks.Seams.{EndPlainly}

-- law: pauses that change each item by itself are divisible at the seam, whatever the settings of the text and of its fragments
abbrev pub ItemwisePausesKeepSeams : Type 0
ItemwisePausesKeepSeams = (falls : Bool) (shaper : hb_ot_script_shaper_t) (m : OtMapValue) (script : Option Script) (font : FaceParts) (spans : Spans) (settings early late : TextSettings) (stages : List StageMap) → EndItemwise stages
    → ArePausesAtSeam falls (pauses_by shaper m script font spans settings) (pauses_by shaper m script font spans early) (pauses_by shaper m script font spans late) stages

-- law: all substitution by the plan of a shaper that finds no syllables is divisible at the seam: it keeps a text divided, and leaves the
-- item that stands first after the break its own, or makes it unsafe to break there
abbrev pub PlannedSubstitutionKeepsSeams : Type 0
PlannedSubstitutionKeepsSeams = (falls : Bool) (shaper : hb_ot_any_shaper_t) (plan : hb_script_plan_t ⊤) (font : FaceParts) (languages : List Tag) (direction : Direction) (script : Option Script) (features : List UserFeature)
    (t : Tables) (spans : Spans) (settings early late : TextSettings) → FindsNoSyllables shaper → plan.map ≡ planned_map (any_kind.asking shaper) font languages direction script features
    → IsDivisibleAtSeam falls (substitution_stages font plan.map ((rules_of shaper plan).pauses font t spans settings)) (substitution_stages font plan.map ((rules_of shaper plan).pauses font t spans early)) (substitution_stages font plan.map ((rules_of shaper plan).pauses font t spans late))

-- law: no GPOS stage of a plan ends with a pause, for any shaper
abbrev pub PlannedPositioningEndsPlainly : Type 0
PlannedPositioningEndsPlainly = (shaper : hb_ot_any_shaper_t) (font : FaceParts) (languages : List Tag) (direction : Direction) (script : Option Script) (features : List UserFeature)
    → EndPlainly (planned_map (any_kind.asking shaper) font languages direction script features).tables.gpos.stages

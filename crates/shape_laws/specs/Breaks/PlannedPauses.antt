-- Plans of the shapers whose pauses change each item by itself.
use Rattle.std.specs.Prelude.{⊤, ◌≡◌, Bool, List, [], ◌∷◌, Option}
use Rattle.buffer_common.specs.declared.direction.Direction.{Direction}
use Rattle.buffer_common.specs.declared.script.Script.{Script}
use Rattle.buffer_common.specs.declared.tag.Tag.{Tag}
use Rattle.buffer_tags.specs.declared.feature.Feature.{Feature as UserFeature}
use Rattle.buffer_unicode_tables.specs.Tables.{Tables}
use Rattle.buffer_stages.specs.Settings.{TextSettings}
use Rattle.buffer_parts.specs.Breaks.Divisible.{IsDivisible}
use Rattle.layout_face.specs.declared.parts.FaceParts.{FaceParts}
use Rattle.layout_map.specs.declared.request.MapRequest.{MapRequest}
use Rattle.layout_map.specs.declared.request.MapRequest.TheVariants.{Feature, GsubPause}
use Rattle.layout_substitution.specs.Substituting.{substitution_stages}
use Rattle.script_categories.specs.declared.shaper.hb_ot_script_shaper_t.TheVariants.{ARABIC_SHAPER, HANGUL_SHAPER, HEBREW_SHAPER, INDIC_SHAPER, KHMER_SHAPER, MYANMAR_SHAPER, MYANMAR_ZAWGYI_SHAPER, THAI_SHAPER, UNIVERSAL_SHAPER}
use Rattle.script_categories.specs.Pauses.{pause_of_number}
use Rattle.script_plan.specs.declared.plan.hb_script_plan_t.{hb_script_plan_t}
use Rattle.script_plan.specs.Plans.{planned_map}
use Rattle.script_plan.specs.Rules.{Spans}
use Rattle.script_dispatch.specs.declared.any_shaper.hb_ot_any_shaper_t.{hb_ot_any_shaper_t}
use Rattle.script_dispatch.specs.declared.any_shaper.hb_ot_any_shaper_t.TheVariants as any
use Rattle.script_dispatch.specs.Requests.{any_kind}
use Rattle.script_dispatch.specs.Rules.{rules_of}
use Rattle.shape_laws.specs.Breaks.Pauses.{IsItemwiseIfAny, EndItemwise}

-- a request ends no stage, or ends it so
abbrev pub IsItemwiseRequest : MapRequest → Type 0
IsItemwiseRequest (Feature tag flags value) = Unit {0}
IsItemwiseRequest (GsubPause n) = IsItemwiseIfAny (pause_of_number n)

-- each of some requests does
abbrev pub AreItemwiseRequests : List MapRequest → Type 0
AreItemwiseRequests [] = Unit {0}
AreItemwiseRequests (r ∷ requests) = IsItemwiseRequest r × AreItemwiseRequests requests

-- a shaper finds no syllables: the default one and the dumber one, and those of Arabic, Hangul, Hebrew, Thai and Zawgyi
abbrev pub FindsNoSyllables : hb_ot_any_shaper_t → Type 0
FindsNoSyllables any.Default = Unit {0}
FindsNoSyllables any.Dumber = Unit {0}
FindsNoSyllables (any.Script ARABIC_SHAPER) = Unit {0}
FindsNoSyllables (any.Script HANGUL_SHAPER) = Unit {0}
FindsNoSyllables (any.Script HEBREW_SHAPER) = Unit {0}
FindsNoSyllables (any.Script MYANMAR_ZAWGYI_SHAPER) = Unit {0}
FindsNoSyllables (any.Script THAI_SHAPER) = Unit {0}
FindsNoSyllables (any.Script INDIC_SHAPER) = ⊥
FindsNoSyllables (any.Script KHMER_SHAPER) = ⊥
FindsNoSyllables (any.Script MYANMAR_SHAPER) = ⊥
FindsNoSyllables (any.Script UNIVERSAL_SHAPER) = ⊥

-- law: the stages of such a shaper's plan end with pauses that change each item by itself
abbrev pub PlannedPausesAreItemwise : Type 0
PlannedPausesAreItemwise = (shaper : hb_ot_any_shaper_t) (font : FaceParts) (languages : List Tag) (direction : Direction) (script : Option Script) (features : List UserFeature) → FindsNoSyllables shaper
    → EndItemwise (planned_map (any_kind.asking shaper) font languages direction script features).tables.gsub.stages

-- law: all substitution by such a shaper's plan is divisible: what GSUB does to a text that may be broken at a cluster, it does to the two
-- fragments of the text
abbrev pub PlannedSubstitutionIsDivisible : Type 0
PlannedSubstitutionIsDivisible = (falls : Bool) (shaper : hb_ot_any_shaper_t) (plan : hb_script_plan_t ⊤) (font : FaceParts) (languages : List Tag) (direction : Direction) (script : Option Script) (features : List UserFeature)
    (t : Tables) (spans : Spans) (settings early late : TextSettings) → FindsNoSyllables shaper → plan.map ≡ planned_map (any_kind.asking shaper) font languages direction script features
    → IsDivisible falls falls (substitution_stages font plan.map ((rules_of shaper plan).pauses font t spans settings)) (substitution_stages font plan.map ((rules_of shaper plan).pauses font t spans early)) (substitution_stages font plan.map ((rules_of shaper plan).pauses font t spans late))

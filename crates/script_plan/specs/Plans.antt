-- The plan for texts of one direction, script and language, and one font.
use Rattle.std.specs.Prelude.{Bool, false, ◌≡◌, ◌==◌, ◌&&◌, ◌||◌, not, List, Option, Some, None, is_some, codes}
use Rattle.buffer_common.specs.declared.tag.Tag.{Tag}
use Rattle.buffer_common.specs.declared.script.Script.{Script}
use Rattle.buffer_common.specs.declared.direction.Direction.{Direction}
use Rattle.buffer_common.specs.ScriptTags.{wanted_tags}
use Rattle.buffer_tags.specs.declared.feature.Feature.{Feature}
use Rattle.layout_face.specs.declared.parts.FaceParts.{FaceParts}
use Rattle.layout_map.specs.Compiled.{MapRequests, OtMapValue, compiled_map, no_requests}
use Rattle.layout_map.specs.Chosen.{script_tag}
use Rattle.layout_map.specs.Masks.{has_mask}
use Rattle.script_plan.specs.declared.planned.TheConstants.{HB_OT_SHAPE_ZERO_WIDTH_MARKS_NONE}
use Rattle.script_plan.specs.declared.plan.PlanChoices.{PlanChoices}
use Rattle.script_plan.specs.declared.plan.hb_ot_shape_plan_t.{hb_ot_shape_plan_t}
use Rattle.script_plan.specs.declared.plan.hb_script_plan_t.{hb_script_plan_t}
use Rattle.script_plan.specs.Requests.{Asking, with_requests}
use Rattle.script_plan.specs.Traits.{ShaperKind, ShaperTraits}

-- the requests of a new builder: the scripts and language systems of the font's tables are chosen
abbrev pub nothing_asked : FaceParts → Option Script → List Tag → MapRequests
nothing_asked font script languages = no_requests (wanted_tags script) languages font.gsub font.gpos

-- the GSUB script that is chosen for the text
abbrev pub gsub_script : FaceParts → Option Script → List Tag → Option Tag
gsub_script font script languages = script_tag (nothing_asked font script languages).tables.gsub

-- the map has the feature frac, or both numr and dnom
abbrev pub has_fractions : OtMapValue → Bool
has_fractions m = has_mask (codes "frac") m || has_mask (codes "numr") m && has_mask (codes "dnom") m

-- the chosen script is the given one
abbrev pub is_chosen : Tag → Option Tag → Bool
is_chosen wanted None = false
is_chosen wanted (Some chosen) = wanted.0 == chosen.0

-- a shaper that is made for one GPOS script gets another, so GPOS is not applied
abbrev pub disables_gpos : Option Tag → Option Tag → Bool
disables_gpos None chosen = false
disables_gpos (Some wanted) chosen = not (is_chosen wanted chosen)

-- GPOS is applied
abbrev pub uses_gpos : ShaperTraits → FaceParts → OtMapValue → Bool
uses_gpos traits font m = is_some font.gpos && not (disables_gpos traits.gpos_tag m.tables.gpos.chosen_script)

-- a shaper zeroes the advances of marks, before or after positioning
abbrev pub zeroes_marks : ShaperTraits → Bool
zeroes_marks traits = not (traits.zero_width_marks == HB_OT_SHAPE_ZERO_WIDTH_MARKS_NONE)

-- the choices of a plan, beside its map, where its planner has the shaper's choices of marks
abbrev pub choices : ShaperTraits → FaceParts → OtMapValue → PlanChoices
choices traits font m = record {
  has_frac = has_fractions m;
  has_vert = has_mask (codes "vert") m;
  zero_marks = zeroes_marks traits;
  fallback_glyph_classes = not (is_some font.gdef.classes);
  fallback_mark_positioning = not (uses_gpos traits font m) && traits.fallback_position;
  adjust_mark_positioning_when_zeroing = not (uses_gpos traits font m);
  apply_gpos = uses_gpos traits font m;
  apply_fallback_kern = not (uses_gpos traits font m);
}

-- the choices of a plan by its planner's two fields: whether marks' advances are zeroed, and whether marks are positioned
-- by glyph extents where GPOS is not applied (HarfBuzz: hb_ot_shape_planner_t::compile)
abbrev pub choices_of_planner : (zero_marks fallback_position : Bool) → ShaperTraits → FaceParts → OtMapValue → PlanChoices
choices_of_planner zero_marks fallback_position traits font m = record (choices traits font m) {
  zero_marks = zero_marks;
  fallback_mark_positioning = not (uses_gpos traits font m) && fallback_position;
}

-- the compiled map of a text's requests
abbrev pub planned_map : Asking → FaceParts → List Tag → Direction → Option Script → List Feature → OtMapValue
planned_map asking font languages direction script features =
    compiled_map (with_requests asking direction script features (nothing_asked font script languages))

-- ---- plans of a family of shapers

-- the shaper of a text, chosen by its script
unfoldable pub planned_shaper : {S D : Type 0} → ShaperKind S D → FaceParts → List Tag → Direction → Option Script → S
planned_shaper kind font languages direction script = kind.shaper_of script direction (gsub_script font script languages)

-- the map of a text's plan, by its script
unfoldable pub text_map : {S D : Type 0} → ShaperKind S D → FaceParts → List Tag → Direction → Option Script → List Feature → OtMapValue
text_map kind font languages direction script features =
    planned_map (kind.asking (planned_shaper kind font languages direction script)) font languages direction script features

-- what a text's shaper reads of its plan
unfoldable pub text_plan : {S D : Type 0} → ShaperKind S D → FaceParts → List Tag → Direction → Option Script → List Feature → hb_script_plan_t D
text_plan kind font languages direction script features = record {
  direction = direction;
  script = script;
  map = text_map kind font languages direction script features;
  has_gpos_mark = has_mask (codes "mark") (text_map kind font languages direction script features);
  choices = choices (kind.traits (planned_shaper kind font languages direction script)) font (text_map kind font languages direction script features);
  plan_data = kind.data_of (planned_shaper kind font languages direction script) (text_map kind font languages direction script features) script;
}

-- a plan is that of a text: its shaper, what the shaper reads of it, the user's features, and the tags of the text's language
pub record IsPlanned {S D : Type 0} (kind : ShaperKind S D) (font : FaceParts) (languages : List Tag) (d : Direction) (s : Option Script) (asked : List Feature) (plan : hb_ot_shape_plan_t S D) : Type 0 where
  pub shaper : plan.shaper ≡ planned_shaper kind font languages d s
  pub script_plan : plan.script_plan ≡ text_plan kind font languages d s asked
  pub features : plan.user_features.items ≡ asked
  pub tags : plan.language_tags.items ≡ languages

-- a plan is one of a font: the plan for the direction, the script, the language tags and the features that it keeps
abbrev pub IsPlanOf : {S D : Type 0} → ShaperKind S D → FaceParts → hb_ot_shape_plan_t S D → Type 0
IsPlanOf kind font plan =
    IsPlanned kind font plan.language_tags.items plan.script_plan.direction plan.script_plan.script plan.user_features.items plan

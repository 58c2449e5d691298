-- A plan of shapers of a kind, made.
use Rattle.std.proofs.Common.{◌≡◌, List, ap, subst, ◌∙◌}
use Rattle.std.specs.Prelude.{Bool, Option, codes}
use Rattle.buffer_common.specs.declared.tag.Tag.{Tag}
use Rattle.buffer_common.specs.declared.script.Script.{Script}
use Rattle.buffer_common.specs.declared.direction.Direction.{Direction}
use Rattle.buffer_tags.specs.declared.feature.Feature.{Feature}
use Rattle.layout_face.specs.declared.parts.FaceParts.{FaceParts}
use Rattle.layout_map.specs.Compiled.{MapRequests, OtMapValue, compiled_map}
use Rattle.layout_map.specs.Masks.{has_mask}
use Rattle.script_plan.specs.declared.plan.PlanChoices.{PlanChoices}
use Rattle.script_plan.specs.declared.plan.hb_ot_shape_plan_t.{hb_ot_shape_plan_t}
use Rattle.script_plan.specs.declared.plan.hb_script_plan_t.{hb_script_plan_t}
use Rattle.script_plan.specs.Plans.{IsPlanned, choices, choices_of_planner, gsub_script, nothing_asked, planned_shaper, text_map, text_plan, zeroes_marks}
use Rattle.script_plan.specs.Requests.{Asking, with_requests}
use Rattle.script_plan.specs.Traits.{ShaperKind}

pub requests_are : (asking : Asking) (d e : Direction) (s t : Option Script) (asked : List Feature) (b before m : MapRequests) → d ≡ e → s ≡ t → b ≡ before → m ≡ with_requests asking d s asked b → m ≡ with_requests asking e t asked before
requests_are asking d e s t asked b before m direction script same is =
    is ∙ ap (λ x. with_requests asking x s asked b) direction ∙ ap (λ x. with_requests asking e x asked b) script ∙ ap (λ x. with_requests asking e t asked x) same

module _ {S D : Type 0} (kind : ShaperKind S D) (font : FaceParts) (languages : List Tag) (d : Direction) (s : Option Script) (asked : List Feature) where
  map_is : (shaper : S) (m : MapRequests) → shaper ≡ planned_shaper kind font languages d s
      → m ≡ with_requests (kind.asking shaper) d s asked (nothing_asked font s languages) → compiled_map m ≡ text_map kind font languages d s asked
  unfolding text_map
  map_is shaper m by requests =
      let P : S → Type 0 = λ sh. m ≡ with_requests (kind.asking sh) d s asked (nothing_asked font s languages) in
      ap compiled_map (subst P by requests)

  shaper_is : (shaper : S) → shaper ≡ kind.shaper_of s d (gsub_script font s languages) → shaper ≡ planned_shaper kind font languages d s
  unfolding planned_shaper
  shaper_is shaper e = e

  -- what the shaper reads of it, part by part
  parts_are : (shaper : S) (m : OtMapValue) (plan : hb_script_plan_t D) → shaper ≡ planned_shaper kind font languages d s → m ≡ text_map kind font languages d s asked
      → plan.direction ≡ d → plan.script ≡ s → plan.map ≡ m → plan.has_gpos_mark ≡ has_mask (codes "mark") m → plan.choices ≡ choices (kind.traits shaper) font m → plan.plan_data ≡ kind.data_of shaper m s
      → plan ≡ text_plan kind font languages d s asked
  unfolding text_plan
  parts_are shaper m plan by is direction script map marked chosen kept =
      let shaper_text = planned_shaper kind font languages d s in
      let map_text = text_map kind font languages d s asked in
      ap (λ x. record plan { direction = x }) direction
      ∙ ap (λ x. record plan { direction = d; script = x }) script
      ∙ ap (λ x. record plan { direction = d; script = s; map = x }) (map ∙ is)
      ∙ ap (λ x. record plan { direction = d; script = s; map = map_text; has_gpos_mark = x }) (marked ∙ ap (has_mask (codes "mark")) is)
      ∙ ap (λ x. record plan { direction = d; script = s; map = map_text; has_gpos_mark = has_mask (codes "mark") map_text; choices = x }) (chosen ∙ ap (λ sh. choices (kind.traits sh) font m) by ∙ ap (λ n. choices (kind.traits shaper_text) font n) is)
      ∙ ap (λ x. record { direction = d; script = s; map = map_text; has_gpos_mark = has_mask (codes "mark") map_text; choices = choices (kind.traits shaper_text) font map_text; plan_data = x }) (kept ∙ ap (λ sh. kind.data_of sh m s) by ∙ ap (λ n. kind.data_of shaper_text n s) is)

  pub plan_made : (plan : hb_ot_shape_plan_t S D) (shaper : S) (m : MapRequests)
      → shaper ≡ kind.shaper_of s d (gsub_script font s languages) → m ≡ with_requests (kind.asking shaper) d s asked (nothing_asked font s languages)
      → plan.shaper ≡ shaper → plan.script_plan.direction ≡ d → plan.script_plan.script ≡ s → plan.script_plan.map ≡ compiled_map m → plan.script_plan.has_gpos_mark ≡ has_mask (codes "mark") (compiled_map m) → plan.script_plan.choices ≡ choices (kind.traits shaper) font (compiled_map m)
      → plan.script_plan.plan_data ≡ kind.data_of shaper (compiled_map m) s → plan.user_features.items ≡ asked → plan.language_tags.items ≡ languages → IsPlanned kind font languages d s asked plan
  plan_made plan shaper m by requests same direction script map marked chosen kept features tags =
      let of_script = shaper_is shaper by in
      record {
        shaper = same ∙ of_script;
        script_plan = parts_are shaper (compiled_map m) plan.script_plan of_script (map_is shaper m of_script requests) direction script map marked chosen kept;
        features = features;
        tags = tags;
      }

-- a planner that has the shaper's choices of marks, of one shaper and one font
pub choices_by : {S D : Type 0} (kind : ShaperKind S D) (font face : FaceParts) (shaper by : S) (zero fallback : Bool) (m : OtMapValue) (c : PlanChoices) → shaper ≡ by → face ≡ font
    → zero ≡ zeroes_marks (kind.traits by) → fallback ≡ (kind.traits by).fallback_position → c ≡ choices_of_planner zero fallback (kind.traits shaper) face m → c ≡ choices (kind.traits by) font m
choices_by kind font face shaper by zero fallback m c same_shaper same_face zeroed positioned is =
    is ∙ ap (λ sh. choices_of_planner zero fallback (kind.traits sh) face m) same_shaper ∙ ap (λ f. choices_of_planner zero fallback (kind.traits by) f m) same_face
    ∙ ap (λ z. choices_of_planner z fallback (kind.traits by) font m) zeroed ∙ ap (λ b. choices_of_planner (zeroes_marks (kind.traits by)) b (kind.traits by) font m) positioned

pub data_by : {S D : Type 0} (kind : ShaperKind S D) (shaper by : S) (m : OtMapValue) (s t : Option Script) (kept : D) → shaper ≡ by → s ≡ t → kept ≡ kind.data_of shaper m s → kept ≡ kind.data_of by m t
data_by kind shaper by m s t kept same_shaper same_script is = is ∙ ap (λ sh. kind.data_of sh m s) same_shaper ∙ ap (λ x. kind.data_of by m x) same_script

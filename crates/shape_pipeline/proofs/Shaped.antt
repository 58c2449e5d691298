-- Texts that were shaped.
use Rattle.std.proofs.Common.{ℕ, ◌≡◌, ◌==◌, Bool, true, false, if◌then◌else◌, List, [], length, max, Ok, Err, refl, sym, ap, subst, ◌∙◌}
use Rattle.std.specs.Prelude.{⊤, All, IfErr, IfOk, Option, Result, ◌≢◌, pos}
use Rattle.std.proofs.lemmas.List.{length-map}
use Rattle.std.proofs.lemmas.List.Folds.{list_all-map}
use Rattle.std.proofs.lemmas.List.Sums.{list_all-from_AllPass}
use Rattle.buffer_wrappers.specs.Wrappers.{IsCharacter}
use Rattle.shape_text.specs.Properties.{are_characters, is_character}
use lib.Utf8.{scalar}
use Rattle.buffer_common.specs.ScriptTags.{wanted_language_tags}
use Rattle.buffer_common.specs.declared.direction.Direction.{Direction}
use Rattle.buffer_common.specs.declared.language.Language.{Language}
use Rattle.buffer_common.specs.declared.script.Script.{Script}
use Rattle.buffer_common.specs.declared.tag.Tag.{Tag}
use Rattle.buffer_glyphs.specs.declared.cause.ShapeCause.{ShapeCause}
use Rattle.buffer_glyphs.specs.declared.cause.ShapeCause.TheVariants.{OutOfMemory}
use Rattle.buffer_glyphs.specs.declared.info.hb_glyph_info_t.{hb_glyph_info_t}
use Rattle.buffer_tags.specs.declared.feature.Feature.{Feature}
use Rattle.layout_face.specs.declared.parts.FaceParts.{FaceParts}
use Rattle.buffer_unicode_tables.specs.Tables.{Tables}
use Rattle.buffer_glyphs.specs.Items.{item_of, strip}
use Rattle.buffer_core.specs.Readings.{Follows, Reading}
use Rattle.buffer_core.specs.Settings.{after_leave}
use Rattle.buffer_core.specs.Steps.{follows_events}
use Rattle.buffer_core.specs.Sides.{Sides, all_glyphs, items_of, state_of, view_of}
use Rattle.shape_pipeline.specs.Limits.{unshaped_text}
use Rattle.shape_pipeline.specs.Results.{IsResultOf}
use Rattle.script_plan.specs.declared.plan.hb_script_plan_t.{hb_script_plan_t}
use Rattle.buffer_stages.specs.Settings.{TextSettings, text_settings}
use Rattle.script_dispatch.specs.declared.any_shaper.hb_ot_any_shaper_t.{hb_ot_any_shaper_t}
use Rattle.script_plan.specs.declared.plan.hb_ot_shape_plan_t.{hb_ot_shape_plan_t}
use Rattle.script_plan.specs.Plans.{IsPlanned, text_plan}
use Rattle.script_dispatch.specs.Requests.{any_kind}
use Rattle.script_dispatch.specs.Shapers.{traits_of}
use Rattle.script_plan.specs.Rules.{Spans}
use Rattle.script_dispatch.specs.Rules.{rules_of}
use Rattle.shape_pipeline.specs.Reading.{reading}
use Rattle.shape_pipeline.specs.Shaping.{Shaping}
use Rattle.shape_pipeline.specs.declared.shaping.ShapeFault.{ShapeFault}
use Rattle.shape_pipeline.specs.Shaped.{by_plan, by_shaper, by_text, language_tags, text_reading}
use Rattle.shape_pipeline.proofs.Serving.{direction_of_plan as planned_direction}

-- ---- a text without characters, and another

unshaped_follows : (s : Sides) → Follows (Ok (unshaped_text (view_of s))) (state_of s) (state_of (after_leave s))
unshaped_follows s =
    let same = ap (λ n. record (view_of s) { max_len = max 0x3FFF_FFFF n; max_ops = pos 0x1FFF_FFFF; lig_id = 0 }) (sym (length-map (all_glyphs s) item_of)) in
    follows_events [] (unshaped_text (view_of s)).view (state_of s) (state_of (after_leave s)) same refl refl refl

left_follows : (p : Shaping) (s : Sides) → (length (all_glyphs s) == 0) ≡ true → Follows (text_reading p (state_of s)) (state_of s) (state_of (after_leave s))
unfolding text_reading
left_follows p s empty =
    let count : (length (items_of s) == 0) ≡ true = ap (λ n. n == 0) (length-map (all_glyphs s) item_of) ∙ empty in
    let P : Bool → Type 0 = λ b. Follows (if b then Ok (unshaped_text (state_of s).view) else reading p (state_of s)) (state_of s) (state_of (after_leave s)) in
    subst P (sym count) (unshaped_follows s)

pub empty_follows : (p : Shaping) (s new : Sides) → new ≡ after_leave s → (length (all_glyphs s) == 0) ≡ true → Follows (text_reading p (state_of s)) (state_of s) (state_of new)
empty_follows p s new same empty = let P : Sides → Type 0 = λ n. Follows (text_reading p (state_of s)) (state_of s) (state_of n) in subst P (sym same) (left_follows p s empty)

text_is_read : (p : Shaping) (s : Sides) → (length (all_glyphs s) == 0) ≡ false → text_reading p (state_of s) ≡ reading p (state_of s)
unfolding text_reading
text_is_read p s some =
    let count : (length (items_of s) == 0) ≡ false = ap (λ n. n == 0) (length-map (all_glyphs s) item_of) ∙ some in
    ap (λ b. if b then Ok (unshaped_text (state_of s).view) else reading p (state_of s)) count

pub text_follows : (p : Shaping) (s shaped new : Sides) → new ≡ shaped → (length (all_glyphs s) == 0) ≡ false → Follows (reading p (state_of s)) (state_of s) (state_of shaped) → Follows (text_reading p (state_of s)) (state_of s) (state_of new)
text_follows p s shaped new same some f =
    let P : Reading → Type 0 = λ r. Follows r (state_of s) (state_of shaped) in
    let Q : Sides → Type 0 = λ n. Follows (text_reading p (state_of s)) (state_of s) (state_of n) in
    subst Q (sym same) (subst P (sym (text_is_read p s some)) f)

pub text_refused : (p : Shaping) (s : Sides) (cause scratch_flags : ShapeCause) → scratch_flags ≡ cause → (length (all_glyphs s) == 0) ≡ false → reading p (state_of s) ≡ Err cause → text_reading p (state_of s) ≡ Err scratch_flags
text_refused p s cause scratch_flags same some e = text_is_read p s some ∙ e ∙ ap Err (sym same)

-- ---- a text's own plan

-- what a text is shaped by does not depend on who made its plan
pub planned_for : (font : FaceParts) (tables : Tables) (tags : List ℕ → List Tag) (spans : Spans) (features : List Feature) (s : Sides) (plan : hb_ot_shape_plan_t hb_ot_any_shaper_t ⊤) → IsPlanned any_kind font (language_tags tags s) s.direction s.script features plan
    → by_plan (traits_of plan.shaper) (rules_of plan.shaper plan.script_plan) plan font tables spans (text_settings s) ≡ by_text font tables tags spans features s
planned_for font tables tags spans features s plan is =
    ap (λ fs. by_shaper plan.shaper plan.script_plan fs font tables spans (text_settings s)) is.features
    ∙ ap (λ p. by_shaper plan.shaper p features font tables spans (text_settings s)) is.script_plan
    ∙ ap (λ sh. by_shaper sh (text_plan any_kind font (language_tags tags s) s.direction s.script features) features font tables spans (text_settings s)) is.shaper

-- ---- a text's characters

pub text_characters : (gs : List hb_glyph_info_t) → All IsCharacter gs → are_characters (strip gs) ≡ true
text_characters gs are = list_all-map is_character item_of gs ∙ list_all-from_AllPass (λ (g : hb_glyph_info_t). scalar g.glyph_id) gs (λ k d lt. (are k d lt).scalar_value)

pub same_characters : (s : Sides) → All IsCharacter (all_glyphs s) → are_characters (items_of s) ≡ true
same_characters s are = text_characters (all_glyphs s) are

-- ---- a text whose direction and script were guessed

abbrev IsShaped : Result Sides ShapeFault → (TextSettings → Shaping) → Sides → Type 0
IsShaped r q s = IfOk r (λ (glyphs : Sides). Follows (text_reading (q (text_settings s)) (state_of s)) (state_of s) (state_of glyphs))

abbrev IsRefused : Result Sides ShapeFault → (TextSettings → Shaping) → Sides → Type 0
IsRefused r q s = IfErr r (λ (e : ShapeFault). e.cause ≢ OutOfMemory → text_reading (q (text_settings s)) (state_of s) ≡ Err e.cause)

pub shaped_as_guessed : (q : TextSettings → Shaping) (r : Result Sides ShapeFault) (s mid t : Sides) → s ≡ mid → mid ≡ t → IsShaped r q s → IsShaped r q t
shaped_as_guessed q r s mid t same guess h = subst (IsShaped r q) (same ∙ guess) h

pub refused_as_guessed : (q : TextSettings → Shaping) (r : Result Sides ShapeFault) (s mid t : Sides) → s ≡ mid → mid ≡ t → IsRefused r q s → IsRefused r q t
refused_as_guessed q r s mid t same guess h = subst (IsRefused r q) (same ∙ guess) h

-- what holds of a text and its result holds of the text as it was guessed
pub holds_as_guessed : (P : Sides → Result Sides ShapeFault → Type 0) (r : Result Sides ShapeFault) (s mid t : Sides) → s ≡ mid → mid ≡ t → P s r → P t r
holds_as_guessed P r s mid t same guess h = subst (λ x. P x r) (same ∙ guess) h

abbrev pub HandsOn : Sides → Result Sides ShapeFault → Type 0
HandsOn s r = IfOk r (λ (glyphs : Sides). IsResultOf s glyphs)

-- a text without characters is left
abbrev pub IsLeftEmpty : Sides → Result Sides ShapeFault → Type 0
IsLeftEmpty s r = all_glyphs s ≡ [] → r ≡ Ok (after_leave s)

abbrev pub Keeps : Direction → Sides → Result Sides ShapeFault → Type 0
Keeps d s r = d ≡ s.direction → IfOk r (λ (glyphs : Sides). glyphs.direction ≡ s.direction)

pub empty_shaped : (q : Sides → Shaping) (s mid t new : Sides) → s ≡ mid → mid ≡ t → new ≡ after_leave s → (length (all_glyphs s) == 0) ≡ true → Follows (text_reading (q t) (state_of t)) (state_of t) (state_of new)
empty_shaped q s mid t new same guess left empty =
    let P : Sides → Type 0 = λ x. Follows (text_reading (q x) (state_of x)) (state_of x) (state_of new) in
    subst P (same ∙ guess) (empty_follows (q s) s new left empty)

-- ---- and whose plan is its own

pub direction_kept : (font : FaceParts) (languages : List Tag) (d : Direction) (script : Option Script) (features : List Feature) (plan : hb_ot_shape_plan_t hb_ot_any_shaper_t ⊤) (r : Result Sides ShapeFault) (s mid t : Sides) → IsPlanned any_kind font languages d script features plan → d ≡ s.direction
    → s ≡ mid → mid ≡ t → Keeps plan.script_plan.direction s r → IfOk r (λ (glyphs : Sides). glyphs.direction ≡ t.direction)
direction_kept font languages d script features plan r s mid t is direction same guess keeps =
    let P : Sides → Type 0 = λ x. IfOk r (λ (glyphs : Sides). glyphs.direction ≡ x.direction) in
    subst P (same ∙ guess) (keeps (planned_direction font languages d script features plan is ∙ direction))

pub planned_here : (font : FaceParts) (tags : List ℕ → List Tag) (features : List Feature) (s : Sides) (d : Direction) (script : Option Script) (l : Option Language) (plan : hb_ot_shape_plan_t hb_ot_any_shaper_t ⊤)
    → d ≡ s.direction → script ≡ s.script → l ≡ s.language → IsPlanned any_kind font (wanted_language_tags tags l) d script features plan → IsPlanned any_kind font (language_tags tags s) s.direction s.script features plan
planned_here font tags features s d script l plan direction of language is =
    let A : Direction → Type 0 = λ x. IsPlanned any_kind font (wanted_language_tags tags l) x script features plan in
    let B : Option Script → Type 0 = λ x. IsPlanned any_kind font (wanted_language_tags tags l) s.direction x features plan in
    let C : Option Language → Type 0 = λ x. IsPlanned any_kind font (wanted_language_tags tags x) s.direction s.script features plan in
    subst C language (subst B of (subst A direction is))

module _ (font : FaceParts) (tables : Tables) (tags : List ℕ → List Tag) (spans : Spans) (features : List Feature) (s mid t : Sides) (plan : hb_ot_shape_plan_t hb_ot_any_shaper_t ⊤) (d : Direction) (script : Option Script) (l : Option Language)
    (same : s ≡ mid) (guess : mid ≡ t) (direction : d ≡ s.direction) (of : script ≡ s.script) (language : l ≡ s.language) (is : IsPlanned any_kind font (wanted_language_tags tags l) d script features plan) (r : Result Sides ShapeFault) where
  abbrev IsShapedBy : Sides → Shaping → Type 0
  IsShapedBy x p = IfOk r (λ (glyphs : Sides). Follows (text_reading p (state_of x)) (state_of x) (state_of glyphs))

  abbrev IsRefusedBy : Sides → Shaping → Type 0
  IsRefusedBy x p = IfErr r (λ (e : ShapeFault). e.cause ≢ OutOfMemory → text_reading p (state_of x) ≡ Err e.cause)

  its_own : by_plan (traits_of plan.shaper) (rules_of plan.shaper plan.script_plan) plan font tables spans (text_settings s) ≡ by_text font tables tags spans features s
  its_own = planned_for font tables tags spans features s plan (planned_here font tags features s d script l plan direction of language is)

  pub shaped_by_its_own : IsShapedBy s (by_plan (traits_of plan.shaper) (rules_of plan.shaper plan.script_plan) plan font tables spans (text_settings s)) → IsShapedBy t (by_text font tables tags spans features t)
  shaped_by_its_own h =
      let P : Sides → Type 0 = λ x. IsShapedBy x (by_text font tables tags spans features x) in
      subst P (same ∙ guess) (subst (IsShapedBy s) its_own h)

  pub refused_by_its_own : IsRefusedBy s (by_plan (traits_of plan.shaper) (rules_of plan.shaper plan.script_plan) plan font tables spans (text_settings s)) → IsRefusedBy t (by_text font tables tags spans features t)
  refused_by_its_own h =
      let P : Sides → Type 0 = λ x. IsRefusedBy x (by_text font tables tags spans features x) in
      subst P (same ∙ guess) (subst (IsRefusedBy s) its_own h)

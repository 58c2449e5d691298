-- What is left of a budget before the limits are reset.
use Rattle.std.proofs.Common.{ℕ, ℤ, ◌≡◌, List, [], ◌∷◌, Ok, Err, refl, sym, ap, subst, ◌∙◌}
use Rattle.std.specs.Prelude.{⊤, IfErr, IfOk, Option, Result, ◌≢◌}
use Rattle.buffer_common.specs.ScriptTags.{wanted_language_tags}
use Rattle.buffer_common.specs.declared.direction.Direction.{Direction}
use Rattle.buffer_common.specs.declared.language.Language.{Language}
use Rattle.buffer_common.specs.declared.script.Script.{Script}
use Rattle.buffer_common.specs.declared.tag.Tag.{Tag}
use Rattle.buffer_tags.specs.declared.feature.Feature.{Feature}
use Rattle.buffer_glyphs.specs.declared.cause.ShapeCause.{ShapeCause}
use Rattle.buffer_glyphs.specs.declared.cause.ShapeCause.TheVariants.{OutOfMemory}
use Rattle.buffer_glyphs.specs.declared.info.hb_glyph_info_t.{hb_glyph_info_t}
use Rattle.buffer_glyphs.specs.Items.{clusters}
use Rattle.buffer_core.specs.Readings.{BufferState, Follows, Reading, Stage, View, always, reading_of}
use Rattle.buffer_core.specs.Sides.{Sides, all_glyphs, settings_of, state_of, view_of}
use Rattle.buffer_stages.specs.Ready.{IsDone}
use Rattle.buffer_stages.specs.Settings.{text_settings}
use Rattle.buffer_stages.specs.Stages.{IsFollowed}
use Rattle.buffer_unicode_tables.specs.Tables.{Tables}
use Rattle.layout_face.specs.declared.parts.FaceParts.{FaceParts}
use Rattle.script_dispatch.specs.declared.any_shaper.hb_ot_any_shaper_t.{hb_ot_any_shaper_t}
use Rattle.script_dispatch.specs.Requests.{any_kind}
use Rattle.script_dispatch.specs.Rules.{rules_of}
use Rattle.script_dispatch.specs.Shapers.{traits_of}
use Rattle.script_plan.specs.declared.plan.hb_ot_shape_plan_t.{hb_ot_shape_plan_t}
use Rattle.script_plan.specs.Plans.{IsPlanned}
use Rattle.script_plan.specs.Rules.{Spans}
use Rattle.shape_glyphs.specs.Flags.{with_flags_spread}
use Rattle.shape_glyphs.specs.Ignorables.{ignorables_hidden}
use Rattle.shape_glyphs.specs.Selectors.{with_selectors}
use Rattle.shape_pipeline.specs.Budget.{before_reset, budget_left, glyphs_hidden, left_by, reading_before_reset}
use Rattle.shape_pipeline.specs.Chains.{in_order}
use Rattle.shape_pipeline.specs.Glyphs.{glyphs_substituted, glyphs_taken}
use Rattle.shape_pipeline.specs.Masks.{ranges_set}
use Rattle.shape_pipeline.specs.Reading.{before_ranges, clusters_after, positioning_stage}
use Rattle.shape_pipeline.specs.Shaped.{by_plan, by_text}
use Rattle.shape_pipeline.specs.Shaping.{Shaping, postprocessing_stage}
use Rattle.shape_pipeline.proofs.Classed.{taken_and_substituted}
use Rattle.shape_pipeline.proofs.Lemmas.Chains.{alike_followed, done_followed, first_refused, four_done, in_order_both, second_refused, third_refused, three_followed}
use Rattle.shape_pipeline.proofs.Sets.{done_as_set, followed_as_set, refused_as_set, set_as}
use Rattle.shape_pipeline.proofs.Shaped.{planned_for, planned_here}
use Rattle.shape_pipeline.proofs.Whole.{clusters_known}

-- ---- the end

abbrev hidden_of : Shaping → Stage
hidden_of q v = always (ignorables_hidden q.settings.flags q.settings.invisible q.font) v

pub hidden_done : (q : Shaping) (s a b c new : Sides) → q.settings ≡ text_settings s → IsDone (always (with_selectors q.settings.not_found_variation_selector)) s a
    → IsDone (always (ignorables_hidden (text_settings a).flags (text_settings a).invisible q.font)) a b → IsDone (postprocessing_stage (set_as b q)) b c → IsDone (always with_flags_spread) c new → IsDone (glyphs_hidden q) s new
unfolding glyphs_hidden
hidden_done q s a b c new set f g h k =
    four_done (always (with_selectors q.settings.not_found_variation_selector)) (hidden_of q) (postprocessing_stage q) (always with_flags_spread) s a b c new f (done_as_set hidden_of q s a b set f.settings g)
    (done_as_set postprocessing_stage q s b c set (g.settings ∙ f.settings) h) k

pub hidden_refused : (q : Shaping) (s a b : Sides) (cause : ShapeCause) → q.settings ≡ text_settings s → IsDone (always (with_selectors q.settings.not_found_variation_selector)) s a
    → IsDone (always (ignorables_hidden (text_settings a).flags (text_settings a).invisible q.font)) a b → reading_of (postprocessing_stage (set_as b q)) (state_of b) ≡ Err cause → reading_of (glyphs_hidden q) (state_of s) ≡ Err cause
unfolding glyphs_hidden
hidden_refused q s a b cause set f g e =
    third_refused (always (with_selectors q.settings.not_found_variation_selector)) (hidden_of q) (postprocessing_stage q) (always with_flags_spread ∷ []) s a b cause
    (done_followed (always (with_selectors q.settings.not_found_variation_selector)) s a f) (done_followed (hidden_of q) a b (done_as_set hidden_of q s a b set f.settings g)) (refused_as_set postprocessing_stage q s b cause set (g.settings ∙ f.settings) e)

-- ---- all after the masks of ranges

within_grouped : (q : Shaping) (v : View) → in_order (taken_and_substituted q ∷ positioning_stage q ∷ glyphs_hidden q ∷ []) v ≡ before_reset q v
unfolding before_reset
within_grouped q v = sym (in_order_both (glyphs_taken q ∷ glyphs_substituted q ∷ []) (positioning_stage q ∷ glyphs_hidden q ∷ []) v)

pub within_followed : (q : Shaping) (s a b new : Sides) → q.settings ≡ text_settings s → IsFollowed (taken_and_substituted q) s a → IsDone (positioning_stage (set_as a q)) a b → IsDone (glyphs_hidden (set_as b q)) b new → IsFollowed (before_reset q) s new
within_followed q s a b new set f g h =
    alike_followed (in_order (taken_and_substituted q ∷ positioning_stage q ∷ glyphs_hidden q ∷ [])) (before_reset q) s new (within_grouped q)
    (three_followed (taken_and_substituted q) (positioning_stage q) (glyphs_hidden q) s a b new f (done_followed (positioning_stage q) a b (done_as_set positioning_stage q s a b set f.settings g))
    (done_followed (glyphs_hidden q) b new (done_as_set glyphs_hidden q s b new set (g.settings ∙ f.settings) h)))

pub within_refused : (q : Shaping) (s : Sides) (cause : ShapeCause) → reading_of (taken_and_substituted q) (state_of s) ≡ Err cause → reading_of (before_reset q) (state_of s) ≡ Err cause
within_refused q s cause e = sym (within_grouped q (view_of s)) ∙ first_refused (taken_and_substituted q) (positioning_stage q ∷ glyphs_hidden q ∷ []) s cause e

pub within_refused_then : (q : Shaping) (s a : Sides) (cause : ShapeCause) → q.settings ≡ text_settings s → IsFollowed (taken_and_substituted q) s a → reading_of (positioning_stage (set_as a q)) (state_of a) ≡ Err cause → reading_of (before_reset q) (state_of s) ≡ Err cause
within_refused_then q s a cause set f e =
    sym (within_grouped q (view_of s)) ∙ second_refused (taken_and_substituted q) (positioning_stage q) (glyphs_hidden q ∷ []) s a cause f (refused_as_set positioning_stage q s a cause set f.settings e)

pub within_refused_last : (q : Shaping) (s a b : Sides) (cause : ShapeCause) → q.settings ≡ text_settings s → IsFollowed (taken_and_substituted q) s a → IsDone (positioning_stage (set_as a q)) a b
    → reading_of (glyphs_hidden (set_as b q)) (state_of b) ≡ Err cause → reading_of (before_reset q) (state_of s) ≡ Err cause
within_refused_last q s a b cause set f g e =
    sym (within_grouped q (view_of s))
    ∙ third_refused (taken_and_substituted q) (positioning_stage q) (glyphs_hidden q) [] s a b cause f (done_followed (positioning_stage q) a b (done_as_set positioning_stage q s a b set f.settings g)) (refused_as_set glyphs_hidden q s b cause set (g.settings ∙ f.settings) e)

-- ---- all stages

abbrev pub some_left : ℤ → Result ℤ ShapeCause
some_left left = Ok left

left_of : (q : Reading) (old new : BufferState) (left : ℤ) → Follows q old new → left ≡ new.view.max_ops → left_by q ≡ Ok left
left_of (Ok r) old new left f e = ap some_left (sym (ap (λ (run : BufferState). run.view.max_ops) f) ∙ sym e)
left_of (Err cause) old new left f e = absurd f

pub budget_followed : (p : Shaping) (s t u new : Sides) (left : ℤ) → p.settings ≡ text_settings s → IsFollowed (before_ranges p) s t → IsFollowed (ranges_set p (clusters (all_glyphs t))) t u → IsFollowed (before_reset (set_as u p)) u new → left ≡ new.max_ops → budget_left p (state_of s) ≡ Ok left
unfolding reading_before_reset
budget_followed p s t u new left set f g h e =
    let P : List ℕ → Type 0 = λ ns. IsFollowed (ranges_set p ns) t u in
    let ns = clusters_after (before_ranges p (view_of s)) (state_of s) in
    let all = three_followed (before_ranges p) (ranges_set p ns) (before_reset p) s t u new f (subst P (clusters_known p s t f) g) (followed_as_set before_reset p s u new set (g.settings ∙ f.settings) h) in
    left_of (reading_before_reset p (state_of s)) (state_of s) (state_of new) left all.follows e

left_refused : (q : Reading) (cause : ShapeCause) → q ≡ Err cause → left_by q ≡ Err cause
left_refused q cause e = ap left_by e

pub budget_refused : (p : Shaping) (s : Sides) (cause : ShapeCause) → reading_of (before_ranges p) (state_of s) ≡ Err cause → budget_left p (state_of s) ≡ Err cause
unfolding reading_before_reset
budget_refused p s cause e =
    let ns = clusters_after (before_ranges p (view_of s)) (state_of s) in
    left_refused (reading_before_reset p (state_of s)) cause (first_refused (before_ranges p) (ranges_set p ns ∷ before_reset p ∷ []) s cause e)

pub budget_refused_late : (p : Shaping) (s t u : Sides) (cause : ShapeCause) → p.settings ≡ text_settings s → IsFollowed (before_ranges p) s t → IsFollowed (ranges_set p (clusters (all_glyphs t))) t u → reading_of (before_reset (set_as u p)) (state_of u) ≡ Err cause → budget_left p (state_of s) ≡ Err cause
unfolding reading_before_reset
budget_refused_late p s t u cause set f g e =
    let P : List ℕ → Type 0 = λ ns. IsFollowed (ranges_set p ns) t u in
    let ns = clusters_after (before_ranges p (view_of s)) (state_of s) in
    left_refused (reading_before_reset p (state_of s)) cause
    (third_refused (before_ranges p) (ranges_set p ns) (before_reset p) [] s t u cause f (subst P (clusters_known p s t f) g) (refused_as_set before_reset p s u cause set (g.settings ∙ f.settings) e))

-- ---- a text's own plan

-- what holds of a text by a plan that was made for it holds of the text as it was guessed
pub of_its_own : (font : FaceParts) (tables : Tables) (tags : List ℕ → List Tag) (spans : Spans) (features : List Feature) (s mid t : Sides) (plan : hb_ot_shape_plan_t hb_ot_any_shaper_t ⊤) (d : Direction) (script : Option Script) (l : Option Language)
    → s ≡ mid → mid ≡ t → d ≡ s.direction → script ≡ s.script → l ≡ s.language → IsPlanned any_kind font (wanted_language_tags tags l) d script features plan
    → (Q : Shaping → Sides → Type 0) → Q (by_plan (traits_of plan.shaper) (rules_of plan.shaper plan.script_plan) plan font tables spans (text_settings s)) s → Q (by_text font tables tags spans features t) t
of_its_own font tables tags spans features s mid t plan d script l same guess direction of language is Q h =
    let own = planned_for font tables tags spans features s plan (planned_here font tags features s d script l plan direction of language is) in
    let P : Sides → Type 0 = λ x. Q (by_text font tables tags spans features x) x in
    let R : Shaping → Type 0 = λ p. Q p s in
    subst P (same ∙ guess) (subst R own h)

abbrev pub IsLeft : Result ℤ ShapeCause → Shaping → Sides → Type 0
IsLeft r p s = IfOk r (λ (left : ℤ). budget_left p (state_of s) ≡ Ok left)

abbrev pub IsLeftRefused : Result ℤ ShapeCause → Shaping → Sides → Type 0
IsLeftRefused r p s = IfErr r (λ (e : ShapeCause). e ≢ OutOfMemory → budget_left p (state_of s) ≡ Err e)

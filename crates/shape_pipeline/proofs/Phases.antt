-- The parts of shaping, each of some stages.
use Rattle.std.proofs.Common.{ℕ, ◌≡◌, [], ◌∷◌, Ok, Err, Option, sym, subst, ◌∙◌}
use Rattle.std.specs.Prelude.{◌≢◌, IfErr, IsErrAnd, Result}
use Rattle.buffer_glyphs.specs.declared.cause.ShapeCause.TheVariants.{OutOfMemory}
use Rattle.buffer_glyphs.specs.declared.cause.ShapeCause.{ShapeCause}
use Rattle.buffer_core.specs.Readings.{Stage, View, always, reading_of}
use Rattle.buffer_core.specs.Sides.{Sides, state_of, settings_of, view_of}
use Rattle.buffer_stages.specs.Ready.{DoesGlyphStage, IsDone}
use Rattle.layout_offsets.specs.Finishing.{links_followed}
use Rattle.buffer_stages.specs.Settings.{text_settings}
use Rattle.layout_positioning.specs.Positioning.{positioning_stages}
use Rattle.buffer_stages.specs.Stages.{DoesStage, IsFollowed}
use Rattle.shape_text.specs.Fractions.{with_fractions}
use Rattle.shape_glyphs.specs.Flags.{with_flags_spread}
use Rattle.shape_glyphs.specs.Ignorables.{ignorables_hidden}
use Rattle.shape_glyphs.specs.Selectors.{with_selectors}
use Rattle.shape_glyphs.specs.Widths.{zero_widths}
use Rattle.shape_normalize.specs.Rounds.{normalization}
use Rattle.script_plan.specs.declared.planned.TheConstants.{HB_OT_SHAPE_ZERO_WIDTH_MARKS_BY_GDEF_EARLY, HB_OT_SHAPE_ZERO_WIDTH_MARKS_BY_GDEF_LATE}
use Rattle.shape_pipeline.specs.Chains.{in_order, only_if}
use Rattle.shape_pipeline.specs.Limits.{final_view}
use Rattle.shape_pipeline.specs.Characters.{characters_chosen, normalizer, text_begun, turned_to_line}
use Rattle.shape_pipeline.specs.Masks.{fraction_masks, masks_set}
use Rattle.shape_pipeline.specs.Glyphs.{glyphs_substituted, glyphs_taken}
use Rattle.shape_pipeline.specs.Positioning.{visual_order, marks_positioned, marks_zeroed, positions_adjusted, positions_begun, positions_ended, zeroes_marks}
use Rattle.shape_pipeline.specs.Endings.{text_ended}
use Rattle.shape_pipeline.specs.Reading.{after_ranges, before_ranges, positioning_stage}
use Rattle.shape_pipeline.specs.Shaping.{Shaping, pauses_of, postprocessing_stage, preprocessing_stage, shaper_masks_set}
use Rattle.shape_pipeline.proofs.Classed.{taken_and_substituted}
use Rattle.shape_pipeline.proofs.Lemmas.Chains.{alike_followed, done_followed, first_refused, five_done, four_done, in_order_both, second_refused, third_refused, three_done, three_followed, two_followed}
use Rattle.shape_pipeline.proofs.Sets.{done_as_set, followed_as_set, refused_as_set, set_as}

-- the refusal of a stage by such a cause
pub stage_refused : {X : Type 0} (r : Result X ShapeCause) (e : ShapeCause) (stage : Stage) (old new : Sides) → IsErrAnd r (λ (f : ShapeCause). f ≡ e) → (e ≢ OutOfMemory → reading_of stage (state_of old) ≡ Err e) → DoesStage stage r old new
stage_refused (Ok x) e stage old new h p = absurd h
stage_refused (Err f) e stage old new h p = subst (λ (k : ShapeCause). k ≢ OutOfMemory → reading_of stage (state_of old) ≡ Err k) (sym h) p

pub glyph_stage_refused : {X : Type 0} (r : Result X ShapeCause) (e : ShapeCause) (stage : Stage) (old new : Sides) → IsErrAnd r (λ (f : ShapeCause). f ≡ e) → (e ≢ OutOfMemory → reading_of stage (state_of old) ≡ Err e) → DoesGlyphStage stage r old new
glyph_stage_refused (Ok x) e stage old new h p = absurd h
glyph_stage_refused (Err f) e stage old new h p = subst (λ (k : ShapeCause). k ≢ OutOfMemory → reading_of stage (state_of old) ≡ Err k) (sym h) p

-- ---- characters

-- normalising knows the glyphs that are set in the buffer
pub normal_as_set : {X : Type 0} (r : Result X ShapeCause) (q : Shaping) (i u : Option ℕ) (n : ℕ) (s new : Sides) → i ≡ q.settings.invisible → u ≡ q.settings.not_found_variation_selector → n ≡ q.settings.not_found
    → DoesStage (normalization (record (normalizer q) { invisible = i; unjoined_glyph = u; not_found = n })) r s new → DoesStage (normalization (normalizer q)) r s new
normal_as_set r q i u n s new invisible unjoined missing h =
    let P : Option ℕ → Type 0 = λ j. DoesStage (normalization (record (normalizer q) { invisible = j; unjoined_glyph = u; not_found = n })) r s new in
    let R : Option ℕ → Type 0 = λ w. DoesStage (normalization (record (normalizer q) { unjoined_glyph = w; not_found = n })) r s new in
    let M : ℕ → Type 0 = λ m. DoesStage (normalization (record (normalizer q) { not_found = m })) r s new in
    subst M missing (subst R unjoined (subst P invisible h))

abbrev normalized : Shaping → Stage
normalized q v = normalization (normalizer q) v

abbrev turned : Shaping → Stage
turned q v = always (turned_to_line q) v

pub chosen_followed : (q : Shaping) (s a b new : Sides) → q.settings ≡ text_settings s → IsFollowed (preprocessing_stage q) s a → IsFollowed (always (turned_to_line (set_as a q))) a b → IsFollowed (normalization (normalizer (set_as b q))) b new → IsFollowed (characters_chosen q) s new
unfolding characters_chosen
chosen_followed q s a b new set f g h =
    three_followed (preprocessing_stage q) (turned q) (normalized q) s a b new f (followed_as_set turned q s a b set f.settings g) (followed_as_set normalized q s b new set (g.settings ∙ f.settings) h)

pub chosen_refused : (q : Shaping) (s : Sides) (cause : ShapeCause) → reading_of (preprocessing_stage q) (state_of s) ≡ Err cause → reading_of (characters_chosen q) (state_of s) ≡ Err cause
unfolding characters_chosen
chosen_refused q s cause e = first_refused (preprocessing_stage q) (turned q ∷ normalized q ∷ []) s cause e

pub chosen_refused_last : (q : Shaping) (s a b : Sides) (cause : ShapeCause) → q.settings ≡ text_settings s → IsFollowed (preprocessing_stage q) s a → IsFollowed (always (turned_to_line (set_as a q))) a b → reading_of (normalization (normalizer (set_as b q))) (state_of b) ≡ Err cause → reading_of (characters_chosen q) (state_of s) ≡ Err cause
unfolding characters_chosen
chosen_refused_last q s a b cause set f g e =
    third_refused (preprocessing_stage q) (turned q) (normalized q) [] s a b cause f (followed_as_set turned q s a b set f.settings g) (refused_as_set normalized q s b cause set (g.settings ∙ f.settings) e)

-- ---- masks

pub masks_followed : (q : Shaping) (s a new : Sides) → q.settings ≡ text_settings s → IsFollowed (only_if q.choices.has_frac (always (with_fractions (fraction_masks q.map)))) s a → IsFollowed (shaper_masks_set (set_as a q)) a new → IsFollowed (masks_set q) s new
unfolding masks_set
masks_followed q s a new set f g = two_followed (only_if q.choices.has_frac (always (with_fractions (fraction_masks q.map)))) (shaper_masks_set q) s a new f (followed_as_set shaper_masks_set q s a new set f.settings g)

pub masks_refused : (q : Shaping) (s a : Sides) (cause : ShapeCause) → q.settings ≡ text_settings s → IsFollowed (only_if q.choices.has_frac (always (with_fractions (fraction_masks q.map)))) s a → reading_of (shaper_masks_set (set_as a q)) (state_of a) ≡ Err cause → reading_of (masks_set q) (state_of s) ≡ Err cause
unfolding masks_set
masks_refused q s a cause set f e = second_refused (only_if q.choices.has_frac (always (with_fractions (fraction_masks q.map)))) (shaper_masks_set q) [] s a cause f (refused_as_set shaper_masks_set q s a cause set f.settings e)

-- ---- all before the masks of ranges

pub before_followed : (q : Shaping) (s a b new : Sides) → q.settings ≡ text_settings s → IsFollowed (text_begun q) s a → IsFollowed (characters_chosen (set_as a q)) a b → IsFollowed (masks_set (set_as b q)) b new → IsFollowed (before_ranges q) s new
unfolding before_ranges
before_followed q s a b new set f g h =
    three_followed (text_begun q) (characters_chosen q) (masks_set q) s a b new f (followed_as_set characters_chosen q s a b set f.settings g) (followed_as_set masks_set q s b new set (g.settings ∙ f.settings) h)

pub before_refused : (q : Shaping) (s : Sides) (cause : ShapeCause) → reading_of (text_begun q) (state_of s) ≡ Err cause → reading_of (before_ranges q) (state_of s) ≡ Err cause
unfolding before_ranges
before_refused q s cause e = first_refused (text_begun q) (characters_chosen q ∷ masks_set q ∷ []) s cause e

pub before_refused_then : (q : Shaping) (s a : Sides) (cause : ShapeCause) → q.settings ≡ text_settings s → IsFollowed (text_begun q) s a → reading_of (characters_chosen (set_as a q)) (state_of a) ≡ Err cause → reading_of (before_ranges q) (state_of s) ≡ Err cause
unfolding before_ranges
before_refused_then q s a cause set f e = second_refused (text_begun q) (characters_chosen q) (masks_set q ∷ []) s a cause f (refused_as_set characters_chosen q s a cause set f.settings e)

pub before_refused_last : (q : Shaping) (s a b : Sides) (cause : ShapeCause) → q.settings ≡ text_settings s → IsFollowed (text_begun q) s a → IsFollowed (characters_chosen (set_as a q)) a b → reading_of (masks_set (set_as b q)) (state_of b) ≡ Err cause → reading_of (before_ranges q) (state_of s) ≡ Err cause
unfolding before_ranges
before_refused_last q s a b cause set f g e =
    third_refused (text_begun q) (characters_chosen q) (masks_set q) [] s a b cause f (followed_as_set characters_chosen q s a b set f.settings g) (refused_as_set masks_set q s b cause set (g.settings ∙ f.settings) e)

-- ---- positions

abbrev zeroed_at_early : Shaping → Stage
zeroed_at_early q = only_if (zeroes_marks HB_OT_SHAPE_ZERO_WIDTH_MARKS_BY_GDEF_EARLY q) (always (marks_zeroed q))

abbrev zeroed_at_late : Shaping → Stage
zeroed_at_late q = only_if (zeroes_marks HB_OT_SHAPE_ZERO_WIDTH_MARKS_BY_GDEF_LATE q) (always (marks_zeroed q))

abbrev moved_by_font : Shaping → Stage
moved_by_font q = only_if q.choices.apply_gpos (positioning_stages q.font q.map (pauses_of q))

pub adjusted_done : (q : Shaping) (s a b new : Sides) → q.settings ≡ text_settings s → IsDone (zeroed_at_early q) s a → IsDone (only_if q.choices.apply_gpos (positioning_stages q.font q.map (pauses_of (set_as a q)))) a b → IsDone (zeroed_at_late q) b new → IsDone (positions_adjusted q) s new
unfolding positions_adjusted
adjusted_done q s a b new set f g h = three_done (zeroed_at_early q) (moved_by_font q) (zeroed_at_late q) s a b new f (done_as_set moved_by_font q s a b set f.settings g) h

pub adjusted_refused : (q : Shaping) (s a : Sides) (cause : ShapeCause) → q.settings ≡ text_settings s → IsDone (zeroed_at_early q) s a → reading_of (only_if q.choices.apply_gpos (positioning_stages q.font q.map (pauses_of (set_as a q)))) (state_of a) ≡ Err cause → reading_of (positions_adjusted q) (state_of s) ≡ Err cause
unfolding positions_adjusted
adjusted_refused q s a cause set f e = second_refused (zeroed_at_early q) (moved_by_font q) (zeroed_at_late q ∷ []) s a cause (done_followed (zeroed_at_early q) s a f) (refused_as_set moved_by_font q s a cause set f.settings e)

pub line_ended : (q : Shaping) (s a b c new : Sides) → IsDone (always (zero_widths q.settings.flags)) s a → IsDone (always links_followed) a b → IsDone (only_if q.choices.fallback_mark_positioning (always (marks_positioned q))) b c → IsDone (always visual_order) c new → IsDone (positions_ended q) s new
unfolding positions_ended
line_ended q s a b c new f g h k = four_done (always (zero_widths q.settings.flags)) (always links_followed) (only_if q.choices.fallback_mark_positioning (always (marks_positioned q))) (always visual_order) s a b c new f g h k

pub positioned_done : (q : Shaping) (s a b new : Sides) → q.settings ≡ text_settings s → IsDone (positions_begun q) s a → IsDone (positions_adjusted (set_as a q)) a b → IsDone (positions_ended (set_as b q)) b new → IsDone (positioning_stage q) s new
unfolding positioning_stage
positioned_done q s a b new set f g h =
    three_done (positions_begun q) (positions_adjusted q) (positions_ended q) s a b new f (done_as_set positions_adjusted q s a b set f.settings g) (done_as_set positions_ended q s b new set (g.settings ∙ f.settings) h)

pub positioned_refused : (q : Shaping) (s a : Sides) (cause : ShapeCause) → q.settings ≡ text_settings s → IsDone (positions_begun q) s a → reading_of (positions_adjusted (set_as a q)) (state_of a) ≡ Err cause → reading_of (positioning_stage q) (state_of s) ≡ Err cause
unfolding positioning_stage
positioned_refused q s a cause set f e = second_refused (positions_begun q) (positions_adjusted q) (positions_ended q ∷ []) s a cause (done_followed (positions_begun q) s a f) (refused_as_set positions_adjusted q s a cause set f.settings e)

-- ---- the end

abbrev hidden_of : Shaping → Stage
hidden_of q v = always (ignorables_hidden q.settings.flags q.settings.invisible q.font) v

pub ended_done : (q : Shaping) (s a b c d new : Sides) → q.settings ≡ text_settings s → IsDone (always (with_selectors q.settings.not_found_variation_selector)) s a
    → IsDone (always (ignorables_hidden (text_settings a).flags (text_settings a).invisible q.font)) a b → IsDone (postprocessing_stage (set_as b q)) b c → IsDone (always with_flags_spread) c d → IsDone (always (final_view q.direction)) d new → IsDone (text_ended q) s new
unfolding text_ended
ended_done q s a b c d new set f g h k l =
    five_done (always (with_selectors q.settings.not_found_variation_selector)) (hidden_of q) (postprocessing_stage q) (always with_flags_spread) (always (final_view q.direction)) s a b c d new f (done_as_set hidden_of q s a b set f.settings g)
    (done_as_set postprocessing_stage q s b c set (g.settings ∙ f.settings) h) k l

pub ended_refused : (q : Shaping) (s a b : Sides) (cause : ShapeCause) → q.settings ≡ text_settings s → IsDone (always (with_selectors q.settings.not_found_variation_selector)) s a
    → IsDone (always (ignorables_hidden (text_settings a).flags (text_settings a).invisible q.font)) a b → reading_of (postprocessing_stage (set_as b q)) (state_of b) ≡ Err cause → reading_of (text_ended q) (state_of s) ≡ Err cause
unfolding text_ended
ended_refused q s a b cause set f g e =
    third_refused (always (with_selectors q.settings.not_found_variation_selector)) (hidden_of q) (postprocessing_stage q) (always with_flags_spread ∷ always (final_view q.direction) ∷ []) s a b cause
    (done_followed (always (with_selectors q.settings.not_found_variation_selector)) s a f) (done_followed (hidden_of q) a b (done_as_set hidden_of q s a b set f.settings g)) (refused_as_set postprocessing_stage q s b cause set (g.settings ∙ f.settings) e)

-- ---- all after the masks of ranges

after_grouped : (q : Shaping) (v : View) → in_order (taken_and_substituted q ∷ positioning_stage q ∷ text_ended q ∷ []) v ≡ after_ranges q v
unfolding after_ranges
after_grouped q v = sym (in_order_both (glyphs_taken q ∷ glyphs_substituted q ∷ []) (positioning_stage q ∷ text_ended q ∷ []) v)

pub after_followed : (q : Shaping) (s a b new : Sides) → q.settings ≡ text_settings s → IsFollowed (taken_and_substituted q) s a → IsDone (positioning_stage (set_as a q)) a b → IsFollowed (text_ended (set_as b q)) b new → IsFollowed (after_ranges q) s new
after_followed q s a b new set f g h =
    alike_followed (in_order (taken_and_substituted q ∷ positioning_stage q ∷ text_ended q ∷ [])) (after_ranges q) s new (after_grouped q)
    (three_followed (taken_and_substituted q) (positioning_stage q) (text_ended q) s a b new f (done_followed (positioning_stage q) a b (done_as_set positioning_stage q s a b set f.settings g))
    (followed_as_set text_ended q s b new set (g.settings ∙ f.settings) h))

pub after_refused : (q : Shaping) (s : Sides) (cause : ShapeCause) → reading_of (taken_and_substituted q) (state_of s) ≡ Err cause → reading_of (after_ranges q) (state_of s) ≡ Err cause
after_refused q s cause e = sym (after_grouped q (view_of s)) ∙ first_refused (taken_and_substituted q) (positioning_stage q ∷ text_ended q ∷ []) s cause e

pub after_refused_then : (q : Shaping) (s a : Sides) (cause : ShapeCause) → q.settings ≡ text_settings s → IsFollowed (taken_and_substituted q) s a → reading_of (positioning_stage (set_as a q)) (state_of a) ≡ Err cause → reading_of (after_ranges q) (state_of s) ≡ Err cause
after_refused_then q s a cause set f e =
    sym (after_grouped q (view_of s)) ∙ second_refused (taken_and_substituted q) (positioning_stage q) (text_ended q ∷ []) s a cause f (refused_as_set positioning_stage q s a cause set f.settings e)

pub after_refused_last : (q : Shaping) (s a b : Sides) (cause : ShapeCause) → q.settings ≡ text_settings s → IsFollowed (taken_and_substituted q) s a → IsDone (positioning_stage (set_as a q)) a b
    → reading_of (text_ended (set_as b q)) (state_of b) ≡ Err cause → reading_of (after_ranges q) (state_of s) ≡ Err cause
after_refused_last q s a b cause set f g e =
    sym (after_grouped q (view_of s))
    ∙ third_refused (taken_and_substituted q) (positioning_stage q) (text_ended q) [] s a b cause f (done_followed (positioning_stage q) a b (done_as_set positioning_stage q s a b set f.settings g)) (refused_as_set text_ended q s b cause set (g.settings ∙ f.settings) e)

-- Texts that are shaped to the same.
use Rattle.std.proofs.Common.{ℕ, ◌≡◌, ◌+◌, Bool, true, if◌then◌else◌, List, [], ◌∷◌, map, Ok, Err, refl, sym, ap, subst, ◌∙◌, arith}
use Rattle.std.specs.Prelude.{⊤, bit_and, Option, Some, None}
use Rattle.std.proofs.lemmas.Nat.{and_mask}
use Rattle.buffer_common.specs.declared.direction.Direction.{Direction}
use Rattle.buffer_common.specs.declared.script.Script.{Script}
use Rattle.buffer_common.specs.declared.tag.Tag.{Tag}
use Rattle.buffer_tags.specs.declared.feature.Feature.{Feature}
use Rattle.layout_face.specs.declared.parts.FaceParts.{FaceParts}
use Rattle.buffer_unicode_tables.specs.Tables.{Tables}
use Rattle.buffer_glyphs.specs.declared.cause.ShapeCause.{ShapeCause}
use Rattle.buffer_glyphs.specs.declared.info.hb_glyph_info_t.{hb_glyph_info_t}
use Rattle.buffer_glyphs.specs.Items.{Item, item_of, strip, without_flags}
use Rattle.buffer_glyphs.specs.Origins.{Origin, origin_of, origins}
use Rattle.buffer_glyphs.specs.Parts.{or}
use Rattle.buffer_core.specs.Readings.{Follows, Reading, BufferState, View}
use Rattle.buffer_core.specs.Segment.{first_script, after_guess_segment_properties, guessed_direction, guessed_script, has_own_script}
use Rattle.buffer_unicode.specs.Scripts.{script_of}
use Rattle.buffer_core.specs.Sides.{Sides, all_glyphs, items_of, state_of, view_of}
use Rattle.buffer_stages.specs.Settings.{TextSettings, text_settings}
use Rattle.script_plan.specs.declared.plan.hb_ot_shape_plan_t.{hb_ot_shape_plan_t}
use Rattle.script_plan.specs.Plans.{IsPlanned}
use Rattle.script_plan.specs.Rules.{Spans}
use Rattle.script_dispatch.specs.declared.any_shaper.hb_ot_any_shaper_t.{hb_ot_any_shaper_t}
use Rattle.script_dispatch.specs.Requests.{any_kind}
use Rattle.script_dispatch.specs.Rules.{rules_of}
use Rattle.script_dispatch.specs.Shapers.{traits_of}
use Rattle.shape_pipeline.specs.Laws.{AreAlike, GuessedTextsAreAlike, TextsReadAlike}
use Rattle.shape_pipeline.specs.ReadingLaws.{have_no_ranges}
use Rattle.shape_pipeline.specs.Results.{AgreeOn, AreSame, AreSameItems, IsShapedBy}
use Rattle.shape_pipeline.specs.Shaped.{by_plan, by_text, language_tags, text_reading}
use Rattle.shape_pipeline.specs.Shaping.{Shaping}
use Rattle.shape_pipeline.proofs.Shaped.{planned_for}
use Rattle.buffer_core.specs.Steps.{follows_once as runs_are_one}

-- ---- a glyph is its item and its origin

abbrev glyph_of : Item → Origin → hb_glyph_info_t
glyph_of x o = record {
  glyph_id = x.number;
  mask = x.mask + o.flags;
  cluster = o.cluster;
  glyph_index = x.glyph_index;
  unicode_props = record { 0 = x.unicode_props };
  modified_combining_class = x.class;
  glyph_props = record { 0 = x.glyph_props };
  lig_props = x.lig_props;
  syllable = x.syllable;
  category = x.category;
  auxiliary = x.auxiliary;
}

abbrev glyphs_of : List Item → List Origin → List hb_glyph_info_t
glyphs_of [] os = []
glyphs_of (x ∷ xs) [] = []
glyphs_of (x ∷ xs) (o ∷ os) = glyph_of x o ∷ glyphs_of xs os

pub whole_mask : (m : ℕ) → without_flags m + bit_and m 7 ≡ m
whole_mask m = let low = and_mask m 3 in omega (arith, low)

glyph_again : (g : hb_glyph_info_t) → glyph_of (item_of g) (origin_of g) ≡ g
glyph_again g = rw (whole_mask g.mask) refl

glyphs_again : (gs : List hb_glyph_info_t) → glyphs_of (strip gs) (origins gs) ≡ gs
glyphs_again [] = refl
glyphs_again (g ∷ gs) = rw (glyph_again g, glyphs_again gs) refl

-- ---- one reading has one result

same_of_runs : (a b : Sides) → state_of a ≡ state_of b → AreSame a b
same_of_runs a b e = record {
  glyphs = sym (glyphs_again (all_glyphs a)) ∙ ap (λ (run : BufferState). glyphs_of run.view.items run.origins) e ∙ glyphs_again (all_glyphs b);
  positions = ap (λ (run : BufferState). run.view.positions) e;
  direction = ap (λ (run : BufferState). run.view.direction) e;
}

agree_alone : (text : Sides) (p : Shaping) → AgreeOn text p p
agree_alone text p = record {
  results = λ a b f g. same_of_runs a b (runs_are_one (text_reading p (state_of text)) (state_of text) (state_of a) (state_of b) f g);
  causes = λ cause. (λ e. e, λ e. e);
}

pub results_are_one : (p : Shaping) (text : Sides) → AgreeOn text p p
results_are_one p text = agree_alone text p

pub plans_serve_texts : (font : FaceParts) (tables : Tables) (tags : List ℕ → List Tag) (spans : Spans) (features : List Feature) (text : Sides) (plan : hb_ot_shape_plan_t hb_ot_any_shaper_t ⊤)
    → IsPlanned any_kind font (language_tags tags text) (after_guess_segment_properties text).direction (after_guess_segment_properties text).script features plan
    → AgreeOn (after_guess_segment_properties text) (by_text font tables tags spans features (after_guess_segment_properties text)) (by_plan (traits_of plan.shaper) (rules_of plan.shaper plan.script_plan) plan font tables spans (text_settings (after_guess_segment_properties text)))
plans_serve_texts font tables tags spans features text plan is =
    let t = after_guess_segment_properties text in
    let p = by_text font tables tags spans features t in
    subst (λ q. AgreeOn t p q) (sym (planned_for font tables tags spans features t plan is)) (agree_alone t p)

-- ---- texts that are alike are guessed alike

-- the script that the numbers of items show
abbrev script_told : List Item → Option Script
script_told [] = None
script_told (x ∷ xs) = if has_own_script x.number then Some (script_of x.number) else script_told xs

told_by_items : (gs : List hb_glyph_info_t) → first_script gs ≡ script_told (strip gs)
told_by_items [] = refl
told_by_items (g ∷ gs) = ap (λ s. if has_own_script g.glyph_id then Some (script_of g.glyph_id) else s) (told_by_items gs)

same_first : (a b : Sides) → items_of a ≡ items_of b → first_script (all_glyphs a) ≡ first_script (all_glyphs b)
same_first a b e = told_by_items (all_glyphs a) ∙ ap script_told e ∙ sym (told_by_items (all_glyphs b))

same_script : (a b : Sides) → AreAlike a b → guessed_script a ≡ guessed_script b
same_script a b alike =
    ap (λ (st : TextSettings). or st.script (first_script (all_glyphs a))) alike.settings ∙ ap (or b.script) (same_first a b (ap (λ (v : View). v.items) alike.views))

same_direction : (a b : Sides) → AreAlike a b → (after_guess_segment_properties a).direction ≡ (after_guess_segment_properties b).direction
same_direction a b alike = ap (λ (v : View). guessed_direction v.direction (guessed_script a)) alike.views ∙ ap (guessed_direction b.direction) (same_script a b alike)

pub guessed_alike : (a b : Sides) → AreAlike a b → AreAlike (after_guess_segment_properties a) (after_guess_segment_properties b)
guessed_alike a b alike = record {
  views = ap (λ (v : View). record v { direction = (after_guess_segment_properties a).direction }) alike.views ∙ ap (λ d. record (view_of b) { direction = d }) (same_direction a b alike);
  settings = ap (λ (st : TextSettings). record st { script = guessed_script a }) alike.settings ∙ ap (λ s. record (text_settings b) { script = s }) (same_script a b alike);
  languages = alike.languages;
}

seen_alike : (r : Reading) (s t x y : BufferState) → s.view ≡ t.view → Follows r s x → Follows r t y → x.view ≡ y.view
seen_alike (Ok r) s t x y e f g = ap (λ (run : BufferState). run.view) f ∙ sym (ap (λ (run : BufferState). run.view) g)
seen_alike (Err c) s t x y e f g = absurd f

items_of_views : (x y : Sides) → view_of x ≡ view_of y → AreSameItems x y
items_of_views x y e = record {
  items = ap (λ (v : View). v.items) e;
  positions = ap (λ (v : View). v.positions) e;
  direction = ap (λ (v : View). v.direction) e;
}

pub texts_look_alike : TextsReadAlike → GuessedTextsAreAlike → (font : FaceParts) (tables : Tables) (tags : List ℕ → List Tag) (spans : Spans) (features : List Feature) (a b x y : Sides) → have_no_ranges features ≡ true → AreAlike a b
    → IsShapedBy (by_text font tables tags spans features (after_guess_segment_properties a)) (after_guess_segment_properties a) x → IsShapedBy (by_text font tables tags spans features (after_guess_segment_properties b)) (after_guess_segment_properties b) y → AreSameItems x y
texts_look_alike read guess font tables tags spans features a b x y unranged alike f g =
    let both = guess a b alike in
    let p = by_text font tables tags spans features (after_guess_segment_properties a) in
    let same = read font tables tags spans features (after_guess_segment_properties a) (after_guess_segment_properties b) unranged both in
    let P : Reading → Type 0 = λ r. Follows r (state_of (after_guess_segment_properties b)) (state_of y) in
    items_of_views x y (seen_alike (text_reading p (state_of (after_guess_segment_properties a))) (state_of (after_guess_segment_properties a)) (state_of (after_guess_segment_properties b)) (state_of x) (state_of y) both.views f (subst P (sym same) g))

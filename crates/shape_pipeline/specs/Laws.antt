-- Laws of all shaped texts, with or without a plan.
use Rattle.std.specs.Prelude.{ℕ, ⊤, ◌≡◌, true, false, List, []}
use Rattle.buffer_common.specs.declared.tag.Tag.{Tag}
use Rattle.buffer_tags.specs.declared.feature.Feature.{Feature}
use Rattle.layout_face.specs.declared.parts.FaceParts.{FaceParts}
use Rattle.buffer_unicode_tables.specs.Tables.{Tables}
use Rattle.buffer_glyphs.specs.EventParts.{AreEvenRuns, HaveNoConcat}
use Rattle.buffer_glyphs.specs.Order.{BringsNone}
use Rattle.buffer_glyphs.specs.Origins.{numbers}
use Rattle.buffer_core.specs.Readings.{Follows, BufferState, always}
use Rattle.buffer_core.specs.Segment.{after_guess_segment_properties}
use Rattle.buffer_core.specs.Sides.{Sides, flag_requests_of, origins_of, state_of, view_of}
use Rattle.buffer_stages.specs.Settings.{text_settings}
use Rattle.script_plan.specs.declared.plan.hb_ot_shape_plan_t.{hb_ot_shape_plan_t}
use Rattle.script_plan.specs.Plans.{IsPlanned}
use Rattle.script_plan.specs.Rules.{Spans}
use Rattle.script_dispatch.specs.declared.any_shaper.hb_ot_any_shaper_t.{hb_ot_any_shaper_t}
use Rattle.script_dispatch.specs.Requests.{any_kind}
use Rattle.script_dispatch.specs.Rules.{rules_of}
use Rattle.script_dispatch.specs.Shapers.{traits_of}
use Rattle.shape_pipeline.specs.Limits.{unshaped_text}
use Rattle.shape_pipeline.specs.Plans.{IsPlanFor, IsPlanOf, Serves}
use Rattle.shape_pipeline.specs.ReadingLaws.{have_no_ranges}
use Rattle.shape_pipeline.specs.Results.{AgreeOn, AreSameItems, IsShapedBy}
use Rattle.shape_pipeline.specs.Shaping.{Shaping}
use Rattle.shape_pipeline.specs.Shaped.{by_plan, by_text, language_tags, text_reading}

-- law: what a text is shaped by with the plan for it is what it is shaped by without a plan
abbrev pub PlansGiveTheTextsShaping : Type 0
PlansGiveTheTextsShaping = (font : FaceParts) (tables : Tables) (tags : List ℕ → List Tag) (spans : Spans) (features : List Feature) (text : Sides) (plan : hb_ot_shape_plan_t hb_ot_any_shaper_t ⊤)
    → IsPlanFor font tags features text plan
    → by_plan (traits_of plan.shaper) (rules_of plan.shaper plan.script_plan) plan font tables spans (text_settings text) ≡ by_text font tables tags spans features text

-- law: so it is with each plan of the font that serves the text
abbrev pub ServingPlansGiveTheTextsShaping : Type 0
ServingPlansGiveTheTextsShaping = (font : FaceParts) (tables : Tables) (tags : List ℕ → List Tag) (spans : Spans) (features : List Feature) (text : Sides) (plan : hb_ot_shape_plan_t hb_ot_any_shaper_t ⊤)
    → IsPlanOf font plan → Serves tags features text plan
    → by_plan (traits_of plan.shaper) (rules_of plan.shaper plan.script_plan) plan font tables spans (text_settings (after_guess_segment_properties text)) ≡ by_text font tables tags spans features (after_guess_segment_properties text)

-- law: the plan for a text in a font is a plan of the font, and it serves the text
abbrev pub PlansServeTheirTexts : Type 0
PlansServeTheirTexts = (font : FaceParts) (tags : List ℕ → List Tag) (features : List Feature) (text : Sides) (plan : hb_ot_shape_plan_t hb_ot_any_shaper_t ⊤)
    → IsPlanFor font tags features (after_guess_segment_properties text) plan
    → IsPlanOf font plan × Serves tags features text plan

-- a plan for a text's language and for its direction and script, guessed where they are not set, made of the same font and features, shapes the text to what no plan shapes it to
abbrev pub PlansServeTexts : Type 0
PlansServeTexts = (font : FaceParts) (tables : Tables) (tags : List ℕ → List Tag) (spans : Spans) (features : List Feature) (text : Sides) (plan : hb_ot_shape_plan_t hb_ot_any_shaper_t ⊤)
    → IsPlanned any_kind font (language_tags tags text) (after_guess_segment_properties text).direction (after_guess_segment_properties text).script features plan
    → AgreeOn (after_guess_segment_properties text) (by_text font tables tags spans features (after_guess_segment_properties text)) (by_plan (traits_of plan.shaper) (rules_of plan.shaper plan.script_plan) plan font tables spans (text_settings (after_guess_segment_properties text)))

-- law: a text has one result, whatever was shaped before
abbrev pub ResultsAreOne : Type 0
ResultsAreOne = (p : Shaping) (text : Sides) → AgreeOn text p p

-- a text without characters is not refused, and stays as it is, with the limits as at first
abbrev pub EmptyTextsStay : Type 0
EmptyTextsStay = (p : Shaping) (text : BufferState) → text.view.items ≡ [] → text_reading p text ≡ always unshaped_text text.view

-- ---- clusters, and requests for glyph flags

-- two texts differ only in their clusters, their cluster level and their requests for glyph flags
pub record AreAlike (a b : Sides) : Type 0 where
  pub views : view_of a ≡ view_of b
  pub settings : text_settings a ≡ text_settings b
  pub languages : a.language ≡ b.language

-- law: such texts fail for the same cause, or have the same glyphs with the same positions, where no feature is
-- requested for a range of the text
abbrev pub TextsReadAlike : Type 0
TextsReadAlike = (font : FaceParts) (tables : Tables) (tags : List ℕ → List Tag) (spans : Spans) (features : List Feature) (a b : Sides) → have_no_ranges features ≡ true → AreAlike a b
    → text_reading (by_text font tables tags spans features a) (state_of a) ≡ text_reading (by_text font tables tags spans features b) (state_of b)

-- so it is where their directions and scripts are guessed: what is guessed does not depend on clusters, levels and such requests
abbrev pub GuessedTextsAreAlike : Type 0
GuessedTextsAreAlike = (a b : Sides) → AreAlike a b → AreAlike (after_guess_segment_properties a) (after_guess_segment_properties b)

-- and their results show the same but for clusters and flags
abbrev pub TextsLookAlike : Type 0
TextsLookAlike = (font : FaceParts) (tables : Tables) (tags : List ℕ → List Tag) (spans : Spans) (features : List Feature) (a b x y : Sides) → have_no_ranges features ≡ true → AreAlike a b
    → IsShapedBy (by_text font tables tags spans features (after_guess_segment_properties a)) (after_guess_segment_properties a) x → IsShapedBy (by_text font tables tags spans features (after_guess_segment_properties b)) (after_guess_segment_properties b) y → AreSameItems x y

-- each cluster number of a result is one of the text's
abbrev pub TextsKeepNumbers : Type 0
TextsKeepNumbers = (p : Shaping) (text : Sides) (result : BufferState) → Follows (text_reading p (state_of text)) (state_of text) result → BringsNone (numbers (origins_of text)) (numbers result.origins)

-- law: neighbouring glyphs of one cluster of a result have the same flags
abbrev pub TextsAreEven : Type 0
TextsAreEven = (p : Shaping) (text : Sides) (result : BufferState) → Follows (text_reading p (state_of text)) (state_of text) result → AreEvenRuns result.origins

-- law: UNSAFE_TO_CONCAT is set in a result only where it was requested
abbrev pub TextsHaveNoConcat : Type 0
TextsHaveNoConcat = (p : Shaping) (text : Sides) (result : BufferState) → (flag_requests_of text).concat ≡ false → Follows (text_reading p (state_of text)) (state_of text) result → HaveNoConcat result.origins

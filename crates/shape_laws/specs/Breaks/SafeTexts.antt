-- What `shape` promises where PRODUCE_SAFE_BREAKS is requested: a text may be cut before each cluster none of whose glyphs is
-- unsafe to break.
use Rattle.std.specs.Prelude.{ℕ, ⊤, ◌≡◌, Bool, List}
use Rattle.buffer_common.specs.declared.tag.Tag.{Tag}
use Rattle.buffer_tags.specs.declared.feature.Feature.{Feature}
use Rattle.buffer_glyphs.specs.Origins.{numbers}
use Rattle.buffer_glyphs.specs.Order.{IsInOrder}
use Rattle.buffer_unicode_tables.specs.Lawful.{AsciiHasNoMarks}
use Rattle.buffer_unicode_tables.specs.Tables.{Tables}
use Rattle.buffer_core.specs.Sides.{Sides, state_of}
use Rattle.buffer_stages.specs.Settings.{text_settings}
use Rattle.buffer_parts.specs.Breaks.Divisible.{IsBreakable}
use Rattle.layout_face.specs.declared.parts.FaceParts.{FaceParts}
use Rattle.script_dispatch.specs.declared.any_shaper.hb_ot_any_shaper_t.{hb_ot_any_shaper_t}
use Rattle.script_dispatch.specs.Requests.{any_kind}
use Rattle.script_dispatch.specs.Rules.{rules_of}
use Rattle.script_dispatch.specs.Shapers.{traits_of}
use Rattle.script_plan.specs.Plans.{planned_shaper, text_plan}
use Rattle.script_plan.specs.Rules.{Spans}
use Rattle.script_plan.specs.declared.plan.hb_ot_shape_plan_t.{hb_ot_shape_plan_t}
use Rattle.shape_pipeline.specs.Characters.{normalizer}
use Rattle.shape_pipeline.specs.Plans.{IsPlanOf}
use Rattle.shape_pipeline.specs.Results.{IsShapedBy}
use Rattle.shape_pipeline.specs.Shaped.{by_plan, by_text, language_tags}
use Rattle.shape_pipeline.specs.Shaping.{Shaping}
use Rattle.shape_laws.specs.Breaks.ByShaper.{MayBeCutBy}
use Rattle.shape_laws.specs.Breaks.Characters.{KeepsMarks}
use Rattle.shape_laws.specs.Breaks.InLine.{MayBeCutAt, ShowsBoth}
use Rattle.shape_laws.specs.Breaks.PlannedPauses.{FindsNoSyllables}
use Rattle.shape_laws.specs.Breaks.SafeBreaks.{HasEnough, TextEndsPlainly, TextsStayBroken}
use Rattle.shape_laws.specs.Breaks.Texts.{AreBroken, AreBrokenSettings, IsNativeLine}

-- two texts are those that a text is cut into before cluster c: they have its direction, its script, its level, which is
-- monotone, and its requests, PRODUCE_SAFE_BREAKS among them; and each has the other's characters that are near as its
-- context. The line is native
pub record AreCut (c : ℕ) (whole earlier later : Sides) : Type 0 where
  pub ready : IsBreakable (state_of whole)
  pub broken : AreBroken c (state_of whole) (state_of earlier) (state_of later)
  pub settings : AreBrokenSettings (text_settings whole) (text_settings earlier) (text_settings later)
  pub native : IsNativeLine whole.script whole.direction

-- three texts are of one language
pub record AreOfOneLanguage (whole earlier later : Sides) : Type 0 where
  pub early : earlier.language ≡ whole.language
  pub late : later.language ≡ whole.language

-- the limits are enough for three texts
pub record HaveEnough (p p1 p2 : Shaping) (whole earlier later : Sides) : Type 0 where
  pub all : HasEnough p (state_of whole)
  pub early : HasEnough p1 (state_of earlier)
  pub late : HasEnough p2 (state_of later)

-- the shaper's last stage leaves three texts as they are
pub record HavePlainEnds (p p1 p2 : Shaping) (whole earlier later : Sides) : Type 0 where
  pub all : TextEndsPlainly p (state_of whole)
  pub early : TextEndsPlainly p1 (state_of earlier)
  pub late : TextEndsPlainly p2 (state_of later)

-- what three texts are shaped to
pub record AreShapedBy (p p1 p2 : Shaping) (whole earlier later result first second : Sides) : Type 0 where
  pub all : IsShapedBy p whole result
  pub early : IsShapedBy p1 earlier first
  pub late : IsShapedBy p2 later second

-- a result shows two others, one after the other in the order of its clusters, wherever it may be cut: none of the glyphs of
-- cluster c is unsafe to break
abbrev pub IsSafelyCut : (c : ℕ) (result first second : Sides) → Type 0
IsSafelyCut c result first second = (falls : Bool) → MayBeCutAt c (state_of result) → IsInOrder falls (numbers (state_of result).origins) → ShowsBoth falls (state_of result) (state_of first) (state_of second)

-- what a text is shaped by with a plan
abbrev pub planned_shaping : hb_ot_shape_plan_t hb_ot_any_shaper_t ⊤ → FaceParts → Tables → Spans → Sides → Shaping
planned_shaping plan font tables spans text = by_plan (traits_of plan.shaper) (rules_of plan.shaper plan.script_plan) plan font tables spans (text_settings text)

-- law: safe breaks of shapers that find no syllables, where the text stays broken into two before its glyphs, and its
-- last stage leaves texts as they are
abbrev pub PlannedTextsHaveSafeBreaks : Type 0
PlannedTextsHaveSafeBreaks = (font : FaceParts) (tables : Tables) (spans : Spans) (plan : hb_ot_shape_plan_t hb_ot_any_shaper_t ⊤) (c : ℕ) (whole earlier later result first second : Sides) → IsPlanOf font plan → FindsNoSyllables plan.shaper → AreCut c whole earlier later
    → TextsStayBroken (planned_shaping plan font tables spans whole) (planned_shaping plan font tables spans earlier) (planned_shaping plan font tables spans later) c (state_of whole) (state_of earlier) (state_of later)
    → HavePlainEnds (planned_shaping plan font tables spans whole) (planned_shaping plan font tables spans earlier) (planned_shaping plan font tables spans later) whole earlier later
    → HaveEnough (planned_shaping plan font tables spans whole) (planned_shaping plan font tables spans earlier) (planned_shaping plan font tables spans later) whole earlier later
    → AreShapedBy (planned_shaping plan font tables spans whole) (planned_shaping plan font tables spans earlier) (planned_shaping plan font tables spans later) whole earlier later result first second → IsSafelyCut c result first second

-- law: `shape_with_plan`. What a text is shaped to shows what the two texts are shaped to that it is cut into, one after the
-- other, wherever none of the glyphs of a cluster is unsafe to break. So it is where the shaper's premises hold; what stands
-- for a character in tables and font keeps marks; no ASCII character is a mark; and the limits are enough
abbrev pub SafeBreaksOfPlans : Type 0
SafeBreaksOfPlans = (font : FaceParts) (tables : Tables) (spans : Spans) (plan : hb_ot_shape_plan_t hb_ot_any_shaper_t ⊤) (c : ℕ) (whole earlier later result first second : Sides) → IsPlanOf font plan → AreCut c whole earlier later
    → MayBeCutBy plan.shaper plan.script_plan (planned_shaping plan font tables spans whole) (planned_shaping plan font tables spans earlier) (planned_shaping plan font tables spans later) whole earlier later
    → AsciiHasNoMarks → KeepsMarks (normalizer (planned_shaping plan font tables spans whole))
    → HaveEnough (planned_shaping plan font tables spans whole) (planned_shaping plan font tables spans earlier) (planned_shaping plan font tables spans later) whole earlier later
    → AreShapedBy (planned_shaping plan font tables spans whole) (planned_shaping plan font tables spans earlier) (planned_shaping plan font tables spans later) whole earlier later result first second → IsSafelyCut c result first second

-- law: `shape`, in one language
abbrev pub SafeBreaks : Type 0
SafeBreaks = (font : FaceParts) (tables : Tables) (tags : List ℕ → List Tag) (spans : Spans) (features : List Feature) (c : ℕ) (whole earlier later result first second : Sides) → AreCut c whole earlier later → AreOfOneLanguage whole earlier later
    → MayBeCutBy (planned_shaper any_kind font (language_tags tags whole) whole.direction whole.script) (text_plan any_kind font (language_tags tags whole) whole.direction whole.script features)
    (by_text font tables tags spans features whole) (by_text font tables tags spans features earlier) (by_text font tables tags spans features later) whole earlier later
    → AsciiHasNoMarks → KeepsMarks (normalizer (by_text font tables tags spans features whole))
    → HaveEnough (by_text font tables tags spans features whole) (by_text font tables tags spans features earlier) (by_text font tables tags spans features later) whole earlier later
    → AreShapedBy (by_text font tables tags spans features whole) (by_text font tables tags spans features earlier) (by_text font tables tags spans features later) whole earlier later result first second → IsSafelyCut c result first second

-- What the tests promise: where they say that a text may be broken, the law of safe breaks holds of it.
use Rattle.std.specs.Prelude.{ℕ, ⊤, ◌≡◌, ◌++◌, true, List, Some, take, drop, reverse}
use Rattle.buffer_common.specs.declared.tag.Tag.{Tag}
use Rattle.buffer_tags.specs.declared.feature.Feature.{Feature}
use Rattle.buffer_unicode_tables.specs.Tables.{Tables, pair_of, split_of}
use Rattle.buffer_unicode_tables.specs.Lawful.{IsLawful}
use Rattle.buffer_core.specs.Sides.{Sides, items_of}
use Rattle.layout_face.specs.declared.parts.FaceParts.{FaceParts}
use Rattle.script_categories.specs.declared.shaper.hb_ot_script_shaper_t.TheVariants.{ARABIC_SHAPER}
use Rattle.script_dispatch.specs.declared.any_shaper.hb_ot_any_shaper_t.{hb_ot_any_shaper_t}
use Rattle.script_dispatch.specs.declared.any_shaper.hb_ot_any_shaper_t.TheVariants as any
use Rattle.script_plan.specs.Rules.{Spans}
use Rattle.script_plan.specs.declared.plan.hb_ot_shape_plan_t.{hb_ot_shape_plan_t}
use Rattle.shape_pipeline.specs.Characters.{normalizer}
use Rattle.shape_pipeline.specs.Plans.{IsPlanFor, IsPlanOf}
use Rattle.shape_pipeline.specs.Shaped.{by_text}
use Rattle.shape_pipeline.specs.Shaping.{Shaping}
use Rattle.shape_laws.specs.Breaks.ByShaper.{HasNoTiles}
use Rattle.shape_laws.specs.Breaks.Characters.{KeepsMarks, characters}
use Rattle.shape_laws.specs.Breaks.SafeTexts.{AreCut, AreOfOneLanguage, AreShapedBy, HaveEnough, IsSafelyCut, planned_shaping}
use Rattle.shape_laws.specs.Breaks.Types.{KeepsTypes}
use Rattle.shape_breaks.specs.declared.premises.BreakPremises.{BreakPremises}
use Rattle.shape_breaks.specs.Cuts.{AreTested, may_be_broken}
use Rattle.shape_breaks.specs.Tables.{HaveNoFault, KeepMarks, KeepTypes}
use Rattle.shape_breaks.specs.Texts.{text_marks}

-- ---- tables and font

-- a shaper decomposes and composes characters as tables do
pub record FollowsTables (p : Shaping) : Type 0 where
  pub splits : (u : ℕ) → p.rules.splits p.tables u ≡ split_of p.tables u
  pub composes : (a b u : ℕ) → p.rules.composes p.tables a b ≡ Some u → pair_of p.tables a b ≡ Some u

-- law: where tables and font keep marks, what stands for a character by a shaper does
abbrev pub TablesKeepMarks : Type 0
TablesKeepMarks = (p : Shaping) → HaveNoFault p.tables → ((u : ℕ) → p.rules.splits p.tables u ≡ split_of p.tables u) → KeepMarks p.tables p.font → KeepsMarks (normalizer p)

-- law: where lawful tables keep joining types, what stands for a character by a shaper does. Compositions need no test: by
-- UAX 15 each has the full decomposition of its two characters
abbrev pub TablesKeepTypes : Type 0
TablesKeepTypes = (p : Shaping) → HaveNoFault p.tables → IsLawful p.tables → FollowsTables p → KeepTypes p.tables → KeepsTypes (normalizer p)

-- ---- a text that is cut

-- two texts have the characters of a text before an index, and from it on
pub record AreTextsAt (us : List ℕ) (at : ℕ) (earlier later : Sides) : Type 0 where
  pub early : characters (items_of earlier) ≡ take at us
  pub late : characters (items_of later) ≡ drop at us

-- what no call tests of three texts of the Arabic shaper: each piece has as its context the five nearest of the characters
-- beside it, of the other piece and of the whole's context; and none of the three has a tile (feature stch)
pub record AreJoinedApart (us : List ℕ) (at : ℕ) (p p1 p2 : Shaping) (whole earlier later : Sides) : Type 0 where
  pub before : p2.settings.pre_context ≡ take 5 (reverse (take at us) ++ p.settings.pre_context)
  pub after : p1.settings.post_context ≡ take 5 (drop at us ++ p.settings.post_context)
  pub untiled : HasNoTiles p whole
  pub early_untiled : HasNoTiles p1 earlier
  pub late_untiled : HasNoTiles p2 later

-- what no call tests of three texts, by their shaper: of other shapers than the Arabic one nothing
abbrev pub ArePieces : hb_ot_any_shaper_t → (us : List ℕ) (at : ℕ) (p p1 p2 : Shaping) (whole earlier later : Sides) → Type 0
ArePieces shaper us at p p1 p2 whole earlier later = shaper ≡ any.Script ARABIC_SHAPER → AreJoinedApart us at p p1 p2 whole earlier later

-- law: `shape_with_plan`. Where a text may be broken at an index, its result shows those of the two pieces, wherever none of
-- the glyphs of the cluster there is unsafe to break; for pieces that are cut from it with their settings, where the limits
-- are enough for all three
abbrev pub BrokenTextsShowBothByPlans : Type 0
BrokenTextsShowBothByPlans = (font : FaceParts) (tables : Tables) (spans : Spans) (plan : hb_ot_shape_plan_t hb_ot_any_shaper_t ⊤) (b : BreakPremises) (us : List ℕ) (at c : ℕ) (whole earlier later result first second : Sides)
    → IsPlanOf font plan → HaveNoFault tables → AreTested tables font b → may_be_broken b plan.shaper plan.script_plan.direction plan.script_plan.script us (text_marks tables us) at ≡ true
    → AreCut c whole earlier later → AreTextsAt us at earlier later
    → ArePieces plan.shaper us at (planned_shaping plan font tables spans whole) (planned_shaping plan font tables spans earlier) (planned_shaping plan font tables spans later) whole earlier later
    → HaveEnough (planned_shaping plan font tables spans whole) (planned_shaping plan font tables spans earlier) (planned_shaping plan font tables spans later) whole earlier later
    → AreShapedBy (planned_shaping plan font tables spans whole) (planned_shaping plan font tables spans earlier) (planned_shaping plan font tables spans later) whole earlier later result first second → IsSafelyCut c result first second

-- law: `shape`, in one language, where the plan is the one for the text
abbrev pub BrokenTextsShowBoth : Type 0
BrokenTextsShowBoth = (font : FaceParts) (tables : Tables) (tags : List ℕ → List Tag) (spans : Spans) (features : List Feature) (plan : hb_ot_shape_plan_t hb_ot_any_shaper_t ⊤) (b : BreakPremises) (us : List ℕ) (at c : ℕ) (whole earlier later result first second : Sides)
    → IsPlanFor font tags features whole plan → HaveNoFault tables → AreTested tables font b → may_be_broken b plan.shaper plan.script_plan.direction plan.script_plan.script us (text_marks tables us) at ≡ true
    → AreCut c whole earlier later → AreOfOneLanguage whole earlier later → AreTextsAt us at earlier later
    → ArePieces plan.shaper us at (by_text font tables tags spans features whole) (by_text font tables tags spans features earlier) (by_text font tables tags spans features later) whole earlier later
    → HaveEnough (by_text font tables tags spans features whole) (by_text font tables tags spans features earlier) (by_text font tables tags spans features later) whole earlier later
    → AreShapedBy (by_text font tables tags spans features whole) (by_text font tables tags spans features earlier) (by_text font tables tags spans features later) whole earlier later result first second → IsSafelyCut c result first second

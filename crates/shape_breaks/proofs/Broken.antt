-- Where the tests say that a text may be broken, the law of safe breaks holds of it.
use Rattle.std.proofs.Common.{ℕ, ◌≡◌, ◌&&◌, Bool, true, List, refl, sym, subst, ◌∙◌}
use Rattle.std.specs.Prelude.{⊤}
use Rattle.buffer_facts.proofs.Truth.{both_true}
use Rattle.buffer_core.specs.Sides.{Sides}
use Rattle.script_dispatch.specs.Requests.{any_kind}
use Rattle.script_dispatch.specs.declared.any_shaper.hb_ot_any_shaper_t.{hb_ot_any_shaper_t}
use Rattle.script_plan.specs.Plans.{planned_shaper, text_plan}
use Rattle.script_plan.specs.declared.plan.hb_script_plan_t.{hb_script_plan_t}
use Rattle.script_dispatch.specs.Rules.{rules_of}
use Rattle.shape_pipeline.specs.Characters.{normalizer}
use Rattle.shape_pipeline.specs.Shaped.{by_text, language_tags}
use Rattle.shape_pipeline.specs.Shaping.{Shaping}
use Rattle.shape_laws.specs.Breaks.ByShaper.{MayBeCutBy}
use Rattle.shape_laws.specs.Breaks.ChainLaws.{NearestContextsShow, TonesAreMarks}
use Rattle.shape_laws.specs.Breaks.Characters.{KeepsMarks}
use Rattle.shape_laws.specs.Breaks.SafeTexts.{SafeBreaks, SafeBreaksOfPlans, planned_shaping}
use Rattle.buffer_unicode_tables.specs.Lawful.{AsciiHasNoMarks, IsLawful}
use Rattle.shape_breaks.specs.declared.premises.BreakPremises.{BreakPremises}
use Rattle.shape_breaks.specs.Cuts.{AreTested, is_inside, may_be_broken, may_be_cut_by}
use Rattle.shape_breaks.specs.Laws.{ArePieces, AreTextsAt, BrokenTextsShowBoth, BrokenTextsShowBothByPlans, TablesKeepMarks, TablesKeepTypes}
use Rattle.shape_breaks.specs.Tables.{HaveNoFault}
use Rattle.shape_breaks.specs.Texts.{text_marks}
use Rattle.shape_breaks.proofs.ByShaper.{may_by, splits_as_tables}

-- the parts of a test that is passed
record Passed (b : BreakPremises) (shaper : hb_ot_any_shaper_t) (plan : hb_script_plan_t ⊤) (p : Shaping) (us : List ℕ) (at : ℕ) : Type 0 where
  inside : is_inside us at ≡ true
  lawful : b.is_lawful ≡ true
  marks : b.keeps_marks ≡ true
  allowed : may_be_cut_by shaper b plan.direction plan.script us (text_marks p.tables us) at ≡ true

passed : (b : BreakPremises) (shaper : hb_ot_any_shaper_t) (plan : hb_script_plan_t ⊤) (p : Shaping) (us : List ℕ) (at : ℕ) → may_be_broken b shaper plan.direction plan.script us (text_marks p.tables us) at ≡ true → Passed b shaper plan p us at
passed b shaper plan p us at h =
    let two = both_true (is_inside us at && (b.is_lawful && b.keeps_marks)) (may_be_cut_by shaper b plan.direction plan.script us (text_marks p.tables us) at) h in
    let first = both_true (is_inside us at) (b.is_lawful && b.keeps_marks) two.0 in
    let own = both_true b.is_lawful b.keeps_marks first.1 in
    record { inside = first.0; lawful = own.0; marks = own.1; allowed = two.1 }

module _ (tones : TonesAreMarks) (nearest : NearestContextsShow) (keep_marks : TablesKeepMarks) (keep_types : TablesKeepTypes) (shaper : hb_ot_any_shaper_t) (plan : hb_script_plan_t ⊤) (p p1 p2 : Shaping) (b : BreakPremises) (us : List ℕ) (at : ℕ)
    (whole earlier later : Sides) (rules : p.rules ≡ rules_of shaper plan) (line : p.direction ≡ plan.direction) (sound : HaveNoFault p.tables) (tested : AreTested p.tables p.font b)
    (may : may_be_broken b shaper plan.direction plan.script us (text_marks p.tables us) at ≡ true) where
  parts : Passed b shaper plan p us at
  parts = passed b shaper plan p us at may

  may_be_cut : AreTextsAt us at earlier later → ArePieces shaper us at p p1 p2 whole earlier later → MayBeCutBy shaper plan p p1 p2 whole earlier later
  may_be_cut texts pieces = may_by tones nearest keep_types plan p p1 p2 b us at whole earlier later sound tested line parts.inside parts.lawful texts shaper rules parts.allowed pieces

  keeps : KeepsMarks (normalizer p)
  keeps = keep_marks p sound (splits_as_tables shaper plan p b us at rules may) (tested.marks.0 parts.marks)

  ascii : AsciiHasNoMarks
  ascii = (tested.lawful.0 parts.lawful).ascii_has_no_marks

pub broken_by_plans : SafeBreaksOfPlans → TablesKeepMarks → TablesKeepTypes → NearestContextsShow → TonesAreMarks → BrokenTextsShowBothByPlans
broken_by_plans law keep_marks keep_types nearest tones font tables spans plan b us at c whole earlier later result first second of sound tested may cut texts pieces enough shaped =
    let p = planned_shaping plan font tables spans whole in
    let p1 = planned_shaping plan font tables spans earlier in
    let p2 = planned_shaping plan font tables spans later in
    law font tables spans plan c whole earlier later result first second of cut
    (may_be_cut tones nearest keep_marks keep_types plan.shaper plan.script_plan p p1 p2 b us at whole earlier later refl refl sound tested may texts pieces)
    (ascii tones nearest keep_marks keep_types plan.shaper plan.script_plan p p1 p2 b us at whole earlier later refl refl sound tested may)
    (keeps tones nearest keep_marks keep_types plan.shaper plan.script_plan p p1 p2 b us at whole earlier later refl refl sound tested may) enough shaped

pub broken : SafeBreaks → TablesKeepMarks → TablesKeepTypes → NearestContextsShow → TonesAreMarks → BrokenTextsShowBoth
broken law keep_marks keep_types nearest tones font tables tags spans features plan b us at c whole earlier later result first second of sound tested may cut one texts pieces enough shaped =
    let languages = language_tags tags whole in
    let shaper = planned_shaper any_kind font languages whole.direction whole.script in
    let q : hb_script_plan_t ⊤ = text_plan any_kind font languages whole.direction whole.script features in
    let p = by_text font tables tags spans features whole in
    let p1 = by_text font tables tags spans features earlier in
    let p2 = by_text font tables tags spans features later in
    let is : may_be_broken b shaper q.direction q.script us (text_marks tables us) at ≡ true =
    subst (λ (s : hb_ot_any_shaper_t). may_be_broken b s q.direction q.script us (text_marks tables us) at ≡ true) of.shaper
    (subst (λ (r : hb_script_plan_t ⊤). may_be_broken b plan.shaper r.direction r.script us (text_marks tables us) at ≡ true) of.script_plan may) in
    let own : ArePieces shaper us at p p1 p2 whole earlier later = λ e. pieces (of.shaper ∙ e) in
    law font tables tags spans features c whole earlier later result first second cut one
    (may_be_cut tones nearest keep_marks keep_types shaper q p p1 p2 b us at whole earlier later refl refl sound tested is texts own)
    (ascii tones nearest keep_marks keep_types shaper q p p1 p2 b us at whole earlier later refl refl sound tested is)
    (keeps tones nearest keep_marks keep_types shaper q p p1 p2 b us at whole earlier later refl refl sound tested is) enough shaped

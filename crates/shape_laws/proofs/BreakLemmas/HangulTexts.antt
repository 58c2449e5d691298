-- Texts of the Hangul shaper, up to the masks of ranges.
use Rattle.std.proofs.Common.{ℕ, ◌≡◌, ◌==◌, ◌⊎◌, inl, inr, not, List, [], ◌∷◌, map, None, refl, sym, ap, subst, ◌∙◌}
use Rattle.std.specs.Prelude.{⊤}
use Rattle.buffer_glyphs.specs.Items.{Item, item_masked}
use Rattle.buffer_unicode_tables.specs.Tables.{Tables}
use Rattle.buffer_core.specs.Readings.{BufferState, View, always, state_after}
use Rattle.buffer_stages.specs.Settings.{TextSettings}
use Rattle.buffer_stages.specs.Stages.{with_items_mapped}
use Rattle.buffer_parts.specs.Breaks.Unsafe.{IsUnsafeAt}
use Rattle.buffer_parts.specs.Breaks.Divisible.{IsBreakable}
use Rattle.layout_face.specs.declared.parts.FaceParts.{FaceParts}
use Rattle.script_categories.specs.declared.shaper.hb_ot_script_shaper_t.TheVariants.{HANGUL_SHAPER}
use Rattle.script_dispatch.specs.Rules.{script_rules}
use Rattle.script_hangul.specs.Hangul.{hangul_text, wants_circles}
use Rattle.script_hangul.specs.MapMasks.{jamo_masks}
use Rattle.script_hangul.specs.Masks.{with_letter_mask}
use Rattle.script_plan.specs.Rules.{ShaperRules}
use Rattle.script_plan.specs.declared.plan.hb_script_plan_t.{hb_script_plan_t}
use Rattle.shape_text.specs.NativeOrder.{without_continuation}
use Rattle.shape_text.specs.Properties.{items_prepared}
use Rattle.shape_pipeline.specs.Shaping.{Shaping, preprocessing_stage, shaper_masks_set}
use Rattle.shape_laws.specs.Breaks.Chains.{KeepsBroken, PreprocessingKeepsBroken, unmasked_state}
use Rattle.shape_laws.specs.Breaks.ChainLaws.{HangulTextsDivide}
use Rattle.shape_laws.specs.Breaks.Rewrites.{RewritesRuns}
use Rattle.shape_laws.specs.Breaks.Texts.{AreBroken, AreBrokenSettings, AreBrokenShapings, IsNativeLine, KnowsGraphemes}
use Rattle.shape_laws.proofs.BreakLemmas.BegunTexts.{BeginsCluster}
use Rattle.shape_laws.proofs.BreakLemmas.Chain.{stages_divide}
use Rattle.shape_laws.proofs.BreakLemmas.Hangul.{BeginsToneless, hangul_keeps}
use Rattle.shape_laws.proofs.BreakLemmas.HangulMarks.{no_tone}
use Rattle.shape_laws.proofs.BreakLemmas.Raw.{begun_plainly, extends_not}
use Rattle.shape_laws.proofs.BreakLemmas.Scripts.{early_rules, late_rules, none_rewrites}
use Rattle.shape_laws.proofs.BreakLemmas.Stages.{begun_all, late_wants}
use Rattle.shape_laws.proofs.BreakLemmas.ThaiTexts.{jamo_masks_keep}
use Rattle.shape_laws.proofs.BreakLemmas.Glyphs.{same_bit}

-- ---- the first character

-- a later text begins so after the first pipeline stage
hangul_begins : (t : Tables) (mask : ℕ) (ys : List Item) → BeginsCluster ys → BeginsToneless (map without_continuation (items_prepared t None (map (item_masked mask) ys)))
hangul_begins t mask [] begins = tt
hangul_begins t mask (y ∷ ys) begins = no_tone y.number (extends_not y.number begins)

-- ---- preprocessing

early_circles : (w e l : TextSettings) → AreBrokenSettings w e l → wants_circles e.flags ≡ wants_circles w.flags
early_circles w e l s = ap (λ n. not (n == 16)) (same_bit w.flags.0 e.flags.0 16 refl s.early_requests)

late_circles : (w e l : TextSettings) → AreBrokenSettings w e l → wants_circles l.flags ≡ wants_circles w.flags
late_circles w e l s = ap (λ n. not (n == 16)) (same_bit w.flags.0 l.flags.0 16 refl s.late_requests)

-- the stage of the shaper in a shaping
pub hangul_stage : (plan : hb_script_plan_t ⊤) (p q : Shaping) (v : View) → p.rules ≡ script_rules HANGUL_SHAPER plan → q.font ≡ p.font → q.rules ≡ p.rules → preprocessing_stage q v ≡ hangul_text p.font q.settings.flags v
hangul_stage plan p q v rules font same = ap (λ (k : ShaperRules). k.preprocesses q.font q.tables q.settings v) (same ∙ rules) ∙ ap (λ (f : FaceParts). hangul_text f q.settings.flags v) font

hangul_preprocesses : (plan : hb_script_plan_t ⊤) (p p1 p2 : Shaping) (c : ℕ) (whole earlier later : BufferState) → p.rules ≡ script_rules HANGUL_SHAPER plan → AreBrokenShapings p p1 p2 → KnowsGraphemes p.tables → IsBreakable whole
    → AreBroken c whole earlier later → IsNativeLine p.settings.script whole.view.direction → PreprocessingKeepsBroken c p p1 p2 whole earlier later
hangul_preprocesses plan p p1 p2 c whole earlier later rules h knows ready broken native w e l r a b stays is_r is_a is_b =
    let begun = begun_all p p1 p2 c whole earlier later w.begun e.begun l.begun h knows ready broken native w.begun_is e.begun_is l.begun_is in
    let late_script : p2.settings.script ≡ p.settings.script = ap (λ (t : TextSettings). t.script) h.settings.late_is in
    let late_line : IsNativeLine p2.settings.script later.view.direction = subst (λ s. IsNativeLine s later.view.direction) (sym late_script) (subst (IsNativeLine p.settings.script) (sym broken.late_of.direction) native) in
    let items = begun_plainly p2 later l.begun late_line (late_wants p.settings p1.settings p2.settings h.settings) l.begun_is in
    let begins : IsUnsafeAt c (state_after w.begun whole).origins ⊎ BeginsToneless (state_after l.begun later).view.items = elim begun.1 [
      | inl unsafe ↦ inl unsafe
      | inr cluster ↦ inr (subst BeginsToneless (sym items) (hangul_begins p2.tables p2.map.global_mask later.view.items cluster))
    ] in
    hangul_keeps p.font p.settings.flags p1.settings.flags p2.settings.flags c (state_after w.begun whole) (state_after e.begun earlier) (state_after l.begun later)
    (early_circles p.settings p1.settings p2.settings h.settings) (late_circles p.settings p1.settings p2.settings h.settings) begins r a b stays
    (sym (hangul_stage plan p p w.begun.view rules refl refl) ∙ is_r)
    (sym (hangul_stage plan p p1 e.begun.view rules (ap (λ (q : Shaping). q.font) h.early_is) (ap (λ (q : Shaping). q.rules) h.early_is)) ∙ is_a)
    (sym (hangul_stage plan p p2 l.begun.view rules (ap (λ (q : Shaping). q.font) h.late_is) (ap (λ (q : Shaping). q.rules) h.late_is)) ∙ is_b)

-- ---- masks

hangul_masks : (plan : hb_script_plan_t ⊤) (q : Shaping) → q.rules ≡ script_rules HANGUL_SHAPER plan → shaper_masks_set q ≡ always (with_items_mapped (with_letter_mask (jamo_masks plan.map)))
hangul_masks plan q rules = ap (λ (k : ShaperRules). k.sets_masks q.font q.tables q.settings) rules

masks_keep : (plan : hb_script_plan_t ⊤) (p p1 p2 : Shaping) → p.rules ≡ script_rules HANGUL_SHAPER plan → p1.rules ≡ script_rules HANGUL_SHAPER plan → p2.rules ≡ script_rules HANGUL_SHAPER plan → KeepsBroken (shaper_masks_set p) (shaper_masks_set p1) (shaper_masks_set p2)
masks_keep plan p p1 p2 rules early late =
    let stage = always (with_items_mapped (with_letter_mask (jamo_masks plan.map))) in
    subst (λ s. KeepsBroken s (shaper_masks_set p1) (shaper_masks_set p2)) (sym (hangul_masks plan p rules))
    (subst (λ s. KeepsBroken stage s (shaper_masks_set p2)) (sym (hangul_masks plan p1 early)) (subst (λ s. KeepsBroken stage stage s) (sym (hangul_masks plan p2 late)) (jamo_masks_keep (jamo_masks plan.map))))

-- ---- a text

pub hangul_texts_divide : HangulTextsDivide
hangul_texts_divide plan p p1 p2 c whole earlier later r e l rules h knows ready broken native apart is_r is_e is_l =
    let mine = script_rules HANGUL_SHAPER plan in
    let early = early_rules p p1 p2 mine h rules in
    let late = late_rules p p1 p2 mine h rules in
    stages_divide p p1 p2 c whole earlier later r e l h (subst (λ (k : ShaperRules). RewritesRuns k.reorders) (sym rules) none_rewrites)
    (hangul_preprocesses plan p p1 p2 c whole earlier later rules h knows ready broken native) knows ready broken native apart
    (λ w a b. masks_keep plan p p1 p2 rules early late c (unmasked_state p whole w) (unmasked_state p1 earlier a) (unmasked_state p2 later b)) is_r is_e is_l

-- Texts of the Thai shaper, up to the masks of ranges.
use Rattle.std.proofs.Common.{ℕ, ◌≡◌, ◌⊎◌, inl, inr, false, List, [], ◌∷◌, map, None, refl, sym, ap, subst, ◌∙◌}
use Rattle.std.specs.Prelude.{⊤}
use Rattle.buffer_glyphs.specs.Items.{Item, item_masked}
use Rattle.buffer_unicode_tables.specs.Tables.{Tables}
use Rattle.buffer_core.specs.Readings.{BufferState, Read, View, state_after}
use Rattle.buffer_parts.specs.Lemmas.Stages.{same_read}
use Rattle.buffer_stages.specs.Settings.{TextSettings}
use Rattle.buffer_stages.specs.Stages.{with_items_mapped}
use Rattle.buffer_parts.specs.Breaks.Unsafe.{IsUnsafeAt}
use Rattle.buffer_parts.specs.Breaks.Divisible.{IsBreakable}
use Rattle.buffer_parts.specs.Breaks.Fragments.{AreGiven}
use Rattle.buffer_parts.proofs.BreakLemmas.Division.{items_are_divisible}
use Rattle.script_categories.specs.declared.shaper.hb_ot_script_shaper_t.TheVariants.{THAI_SHAPER}
use Rattle.script_dispatch.specs.Rules.{script_rules}
use Rattle.script_hangul.specs.Masks.{with_letter_mask}
use Rattle.script_hangul.specs.declared.masks.JamoMasks.{JamoMasks}
use Rattle.script_plan.specs.Rules.{ShaperRules}
use Rattle.script_plan.specs.declared.plan.hb_script_plan_t.{hb_script_plan_t}
use Rattle.script_thai.specs.Texts.{thai_text}
use Rattle.shape_text.specs.NativeOrder.{without_continuation}
use Rattle.shape_text.specs.Properties.{items_prepared}
use Rattle.shape_pipeline.specs.Shaping.{Shaping, preprocessing_stage, shaper_masks_set}
use Rattle.shape_laws.specs.Breaks.Chains.{PreprocessingKeepsBroken, unmasked_state}
use Rattle.shape_laws.specs.Breaks.ChainLaws.{BeginsPlainly, JamoMasksKeepBroken, ThaiTextsDivide}
use Rattle.shape_laws.specs.Breaks.Rewrites.{RewritesRuns}
use Rattle.shape_laws.specs.Breaks.Texts.{AreBroken, AreBrokenShapings, IsNativeLine, KnowsGraphemes}
use Rattle.shape_laws.proofs.BreakLemmas.BegunTexts.{BeginsCluster}
use Rattle.shape_laws.proofs.BreakLemmas.Chain.{stages_divide}
use Rattle.shape_laws.proofs.BreakLemmas.Raw.{begun_plainly, extends_not}
use Rattle.shape_laws.proofs.BreakLemmas.Scripts.{early_rules, late_rules, none_rewrites, same_keep}
use Rattle.shape_laws.proofs.BreakLemmas.Stages.{begun_all, late_wants}
use Rattle.shape_laws.proofs.BreakLemmas.Thai.{BeginsThai, thai_keeps}

-- ---- the first character

-- a later text begins so after the first pipeline stage
pub thai_begins : (t : Tables) (mask : ℕ) (ys : List Item) → BeginsCluster ys → BeginsPlainly ys → BeginsThai (map without_continuation (items_prepared t None (map (item_masked mask) ys)))
thai_begins t mask [] begins plain = tt
thai_begins t mask (y ∷ ys) begins plain = plain (extends_not y.number begins)

-- ---- preprocessing

-- the stage of the shaper in a shaping
pub thai_stage : (plan : hb_script_plan_t ⊤) (p q : Shaping) (v : View) → p.rules ≡ script_rules THAI_SHAPER plan → q.font ≡ p.font → q.tables ≡ p.tables → q.rules ≡ p.rules → preprocessing_stage q v ≡ thai_text plan.map plan.script p.tables p.font v
thai_stage plan p q v rules font tables same =
    ap (λ (k : ShaperRules). k.preprocesses q.font q.tables q.settings v) (same ∙ rules) ∙ ap (λ f. thai_text plan.map plan.script q.tables f v) font ∙ ap (λ t. thai_text plan.map plan.script t p.font v) tables

thai_preprocesses : (plan : hb_script_plan_t ⊤) (p p1 p2 : Shaping) (c : ℕ) (whole earlier later : BufferState) → p.rules ≡ script_rules THAI_SHAPER plan → AreBrokenShapings p p1 p2 → KnowsGraphemes p.tables → IsBreakable whole → AreBroken c whole earlier later
    → IsNativeLine p.settings.script whole.view.direction → BeginsPlainly later.view.items → PreprocessingKeepsBroken c p p1 p2 whole earlier later
thai_preprocesses plan p p1 p2 c whole earlier later rules h knows ready broken native plain w e l r a b stays is_r is_a is_b =
    let begun = begun_all p p1 p2 c whole earlier later w.begun e.begun l.begun h knows ready broken native w.begun_is e.begun_is l.begun_is in
    let late_script : p2.settings.script ≡ p.settings.script = ap (λ (t : TextSettings). t.script) h.settings.late_is in
    let late_line : IsNativeLine p2.settings.script later.view.direction = subst (λ s. IsNativeLine s later.view.direction) (sym late_script) (subst (IsNativeLine p.settings.script) (sym broken.late_of.direction) native) in
    let items = begun_plainly p2 later l.begun late_line (late_wants p.settings p1.settings p2.settings h.settings) l.begun_is in
    let begins : IsUnsafeAt c (state_after w.begun whole).origins ⊎ BeginsThai (state_after l.begun later).view.items = elim begun.1 [
      | inl unsafe ↦ inl unsafe
      | inr cluster ↦ inr (subst BeginsThai (sym items) (thai_begins p2.tables p2.map.global_mask later.view.items cluster plain))
    ] in
    thai_keeps plan.map plan.script p.tables p.font c (state_after w.begun whole) (state_after e.begun earlier) (state_after l.begun later) begins r a b stays
    (sym (thai_stage plan p p w.begun.view rules refl refl refl) ∙ is_r)
    (sym (thai_stage plan p p1 e.begun.view rules (ap (λ (q : Shaping). q.font) h.early_is) (ap (λ (q : Shaping). q.tables) h.early_is) (ap (λ (q : Shaping). q.rules) h.early_is)) ∙ is_a)
    (sym (thai_stage plan p p2 l.begun.view rules (ap (λ (q : Shaping). q.font) h.late_is) (ap (λ (q : Shaping). q.tables) h.late_is) (ap (λ (q : Shaping). q.rules) h.late_is)) ∙ is_b)

pub thai_texts_divide : ThaiTextsDivide
thai_texts_divide plan p p1 p2 c whole earlier later r e l rules h knows ready broken native plain apart is_r is_e is_l =
    let mine = script_rules THAI_SHAPER plan in
    let early = early_rules p p1 p2 mine h rules in
    let late = late_rules p p1 p2 mine h rules in
    stages_divide p p1 p2 c whole earlier later r e l h (subst (λ (k : ShaperRules). RewritesRuns k.reorders) (sym rules) none_rewrites)
    (thai_preprocesses plan p p1 p2 c whole earlier later rules h knows ready broken native plain) knows ready broken native apart
    (λ w a b. same_keep (shaper_masks_set p) (shaper_masks_set p1) (shaper_masks_set p2) (ap (λ (k : ShaperRules). k.sets_masks p.font p.tables p.settings) rules) (ap (λ (k : ShaperRules). k.sets_masks p1.font p1.tables p1.settings) early)
    (ap (λ (k : ShaperRules). k.sets_masks p2.font p2.tables p2.settings) late) c (unmasked_state p whole w) (unmasked_state p1 earlier a) (unmasked_state p2 later b)) is_r is_e is_l

-- ---- masks of jamo

letters_given : (masks : JamoMasks) (xs : List Item) → AreGiven 0 xs → AreGiven 0 (map (with_letter_mask masks) xs)
letters_given masks [] h = tt
letters_given masks (x ∷ xs) h = (h.0, letters_given masks xs h.1)

pub jamo_masks_keep : JamoMasksKeepBroken
jamo_masks_keep masks c whole earlier later r e l stays is_r is_e is_l =
    let f = with_letter_mask masks in
    let all = items_are_divisible false f (λ n x. refl) in
    let w_is = same_read (with_items_mapped f whole.view) r is_r in
    let e_is = same_read (with_items_mapped f earlier.view) e is_e in
    let l_is = same_read (with_items_mapped f later.view) l is_l in
    record {
      breakable = all.breakable whole r is_r stays.breakable;
      given = subst (λ (x : Read). AreGiven 0 x.view.items) w_is (letters_given masks whole.view.items stays.given);
      numbers = record {
        whole_none = ap (λ (x : Read). x.view.lig_id) (sym w_is) ∙ stays.numbers.whole_none;
        early_none = ap (λ (x : Read). x.view.lig_id) (sym e_is) ∙ stays.numbers.early_none;
        late_none = ap (λ (x : Read). x.view.lig_id) (sym l_is) ∙ stays.numbers.late_none;
      };
      divided = elim stays.divided [
        | inl unsafe ↦ inl (all.unsafe whole r c is_r stays.breakable unsafe)
        | inr j ↦ all.divides c whole earlier later r e l stays.breakable j is_r is_e is_l
      ];
    }

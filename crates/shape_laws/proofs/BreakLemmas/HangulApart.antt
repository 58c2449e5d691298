-- Texts of the Hangul shaper, up to the masks of ranges, by the characters of the two that a text is broken into.
use Rattle.std.proofs.Common.{ℕ, ◌≡◌, ◌<◌, inl, inr, Bool, true, false, List, [], ◌∷◌, length, map, None, arith, refl, sym, ap, subst, ◌∙◌}
use Rattle.std.specs.Prelude.{⊤, codes}
use Rattle.std.specs.List.{list_any}
use Rattle.buffer_glyphs.specs.Items.{Item, item_masked}
use Rattle.buffer_core.specs.Readings.{BufferState, state_after}
use Rattle.buffer_stages.specs.Settings.{TextSettings}
use Rattle.buffer_parts.specs.Breaks.Unsafe.{IsUnsafeAt}
use Rattle.buffer_parts.specs.Breaks.Divisible.{IsBreakable}
use Rattle.buffer_properties.specs.Properties.{is_mark_character}
use Rattle.layout_face.specs.declared.parts.FaceParts.{FaceParts}
use Rattle.layout_map.specs.Masks.{mask_at_one}
use Rattle.script_categories.specs.declared.shaper.hb_ot_script_shaper_t.TheVariants.{HANGUL_SHAPER}
use Rattle.script_dispatch.specs.Rules.{script_rules}
use Rattle.script_hangul.specs.Hangul.{text_after, wants_circles}
use Rattle.script_plan.specs.Rules.{ShaperRules}
use Rattle.script_plan.specs.declared.plan.hb_script_plan_t.{hb_script_plan_t}
use Rattle.shape_text.specs.Circle.{DOTTED_CIRCLE}
use Rattle.shape_text.specs.NativeOrder.{without_continuation}
use Rattle.shape_text.specs.Properties.{items_prepared}
use Rattle.shape_pipeline.specs.Characters.{normalizer}
use Rattle.shape_pipeline.specs.Shaping.{Shaping}
use Rattle.shape_laws.specs.Breaks.Chains.{CharacterReads, NormalizesApart, own_state, turned_state}
use Rattle.shape_laws.specs.Breaks.ChainLaws.{HangulCharactersDivide}
use Rattle.shape_laws.specs.Breaks.Characters.{KeepsMarks, OrderEndsUnjoined, characters}
use Rattle.shape_laws.specs.Breaks.HangulCharacters.{MayBreakHangul, begins_toned, has_later_mark_of_hangul}
use Rattle.shape_laws.specs.Breaks.Texts.{AreBroken, AreBrokenShapings, IsNativeLine, KnowsGraphemes}
use Rattle.shape_laws.proofs.BreakLemmas.Hangul.{hangul_items, hangul_read, hangul_state, hangul_unsafe}
use Rattle.shape_laws.proofs.BreakLemmas.HangulForms.{AreOwn}
use Rattle.shape_laws.proofs.BreakLemmas.HangulRaw.{formed_first, formed_last, formed_later, formed_low, formed_none, formed_some}
use Rattle.shape_laws.proofs.BreakLemmas.HangulTexts.{hangul_stage, hangul_texts_divide}
use Rattle.shape_laws.proofs.BreakLemmas.Marks.{AreOf, circled_early, early_is, marks_are}
use Rattle.shape_laws.proofs.BreakLemmas.Plain.{normalizer_alike}
use Rattle.shape_laws.proofs.BreakLemmas.Raw.{begun_plainly}
use Rattle.shape_laws.proofs.BreakLemmas.Scripts.{early_rules, late_rules, order_ends}
use Rattle.shape_laws.proofs.BreakLemmas.Seen.{AreSeen, FirstPlainly, IsReady, IsSeenText, begun_first, begun_seen, prepared_seen, ready_apart, ready_kept, rotated_kept, seen_some}
use Rattle.shape_laws.proofs.BreakLemmas.Stages.{begun_all, late_wants}

-- ---- a text with its syllables formed

of_own : (zs : List Item) → AreOf (characters zs) zs → AreOwn zs
of_own [] p = tt
of_own (z ∷ zs) p = (record { mark = p.0.mark; low = p.0.low }, of_own zs p.1)

seen_own : (us : List ℕ) (zs : List Item) → AreSeen us zs → AreOwn zs
seen_own us zs p = of_own zs (subst (λ vs. AreOf vs zs) (sym p.numbers) p.of)

-- a text at normalizing, by its characters
abbrev IsReadyHangul : FaceParts → List ℕ → List Item → Type 0
IsReadyHangul font us zs = IsReady (has_later_mark_of_hangul font us ≡ true) (list_any is_mark_character us ≡ false) us zs

formed_ready : (font : FaceParts) (circles : Bool) (us : List ℕ) (zs : List Item) → 0 < length zs → IsSeenText us zs → IsReadyHangul font us (text_after font circles (length zs) 0 [] zs)
formed_ready font circles us zs some (inl plain) =
    let own = seen_own us zs plain in
    let early = early_is us zs plain.of some in
    record {
      low = formed_low font circles zs own;
      last = λ e. formed_last font circles zs own (early.ends e);
      some = formed_some font circles zs own some;
      later = λ e. formed_later font circles zs own (ap (has_later_mark_of_hangul font) plain.numbers ∙ e);
      none = λ e. formed_none font circles zs own (marks_are us zs plain.of ∙ e);
    }
formed_ready font circles us zs some (inr circled) =
    let own = seen_own (DOTTED_CIRCLE ∷ us) zs circled.0 in
    let early = circled_early us zs circled.0.of circled.1 some in
    record {
      low = formed_low font circles zs own;
      last = λ e. formed_last font circles zs own (early.ends e);
      some = formed_some font circles zs own some;
      later = λ e. formed_later font circles zs own (ap (has_later_mark_of_hangul font) circled.0.numbers ∙ circled.1);
      none = λ e. let marked = circled.1 in cc;
    }

-- the state of a text after its shaper's preprocessing
hangul_own : (plan : hb_script_plan_t ⊤) (q : Shaping) (s : BufferState) (d : CharacterReads q s) → q.rules ≡ script_rules HANGUL_SHAPER plan → own_state q s d ≡ hangul_state q.font (wants_circles q.settings.flags) (state_after d.begun s)
hangul_own plan q s d rules = hangul_read q.font q.settings.flags (state_after d.begun s) d.own (sym (hangul_stage plan q q d.begun.view rules refl refl) ∙ d.own_is)

-- what its items are at normalizing
hangul_ready : (plan : hb_script_plan_t ⊤) (q : Shaping) (s : BufferState) (d : CharacterReads q s) → q.rules ≡ script_rules HANGUL_SHAPER plan → KeepsMarks (normalizer q) → IsNativeLine q.settings.script s.view.direction → 0 < length s.view.items
    → IsReadyHangul q.font (characters s.view.items) (turned_state q (own_state q s d)).view.items
hangul_ready plan q s d rules h native some =
    let us = characters s.view.items in
    let circles = wants_circles q.settings.flags in
    let b = state_after d.begun s in
    let v = hangul_state q.font circles b in
    let seen = begun_seen q s d.begun h native d.begun_is in
    let one = formed_ready q.font circles us b.view.items (seen_some s.view.items b.view.items some seen) seen in
    let two : IsReadyHangul q.font us v.view.items = subst (IsReadyHangul q.font us) (sym (hangul_items q.font circles b)) one in
    let turned = rotated_kept (normalizer q) q.font q.direction (mask_at_one (codes "rtlm") q.map) q.choices.has_vert v.view h in
    subst (λ (t : BufferState). IsReadyHangul q.font us (turned_state q t).view.items) (sym (hangul_own plan q s d rules))
    (ready_kept (has_later_mark_of_hangul q.font us ≡ true) (list_any is_mark_character us ≡ false) us v.view.items (turned_state q v).view.items two turned.kept)

-- a later text that begins with no mark begins with none at normalizing
late_first : (plan : hb_script_plan_t ⊤) (q : Shaping) (s : BufferState) (d : CharacterReads q s) → q.rules ≡ script_rules HANGUL_SHAPER plan → KeepsMarks (normalizer q)
    → (state_after d.begun s).view.items ≡ map without_continuation (items_prepared q.tables None (map (item_masked q.map.global_mask) s.view.items))
    → FirstPlainly (map without_continuation (items_prepared q.tables None (map (item_masked q.map.global_mask) s.view.items))) → begins_toned q.font (characters s.view.items) ≡ false → FirstPlainly (turned_state q (own_state q s d)).view.items
late_first plan q s d rules h items first toneless =
    let circles = wants_circles q.settings.flags in
    let b = state_after d.begun s in
    let v = hangul_state q.font circles b in
    let seen : AreSeen (characters s.view.items) b.view.items = subst (AreSeen (characters s.view.items)) (sym items) (prepared_seen (normalizer q) q.map.global_mask s.view.items h) in
    let one = formed_first q.font circles b.view.items (seen_own (characters s.view.items) b.view.items seen) (subst FirstPlainly (sym items) first) (ap (begins_toned q.font) seen.numbers ∙ toneless) in
    let two : FirstPlainly v.view.items = subst FirstPlainly (sym (hangul_items q.font circles b)) one in
    let turned = rotated_kept (normalizer q) q.font q.direction (mask_at_one (codes "rtlm") q.map) q.choices.has_vert v.view h in
    subst (λ (t : BufferState). FirstPlainly (turned_state q t).view.items) (sym (hangul_own plan q s d rules)) (turned.first two)

-- ---- two texts

hangul_apart : (plan : hb_script_plan_t ⊤) (p p1 p2 : Shaping) (c : ℕ) (whole earlier later : BufferState) → p.rules ≡ script_rules HANGUL_SHAPER plan → AreBrokenShapings p p1 p2 → KeepsMarks (normalizer p) → KnowsGraphemes p.tables → IsBreakable whole
    → AreBroken c whole earlier later → IsNativeLine p.settings.script whole.view.direction → begins_toned p.font (characters later.view.items) ≡ false → MayBreakHangul p.font (characters earlier.view.items) (characters later.view.items) → NormalizesApart c p p1 p2 whole earlier later
hangul_apart plan p p1 p2 c whole earlier later rules h marks knows ready broken native toneless may w e l =
    let mine = script_rules HANGUL_SHAPER plan in
    let us = characters earlier.view.items in
    let vs = characters later.view.items in
    let early_same = normalizer_alike p p1 h.early_is (ap (λ (t : TextSettings). t.invisible) h.settings.early_is) (ap (λ (t : TextSettings). t.not_found_variation_selector) h.settings.early_is) (ap (λ (t : TextSettings). t.not_found) h.settings.early_is) in
    let late_same = normalizer_alike p p2 h.late_is (ap (λ (t : TextSettings). t.invisible) h.settings.late_is) (ap (λ (t : TextSettings). t.not_found_variation_selector) h.settings.late_is) (ap (λ (t : TextSettings). t.not_found) h.settings.late_is) in
    let early_marks = subst KeepsMarks (sym early_same) marks in
    let late_marks = subst KeepsMarks (sym late_same) marks in
    let early_script : p1.settings.script ≡ p.settings.script = ap (λ (t : TextSettings). t.script) h.settings.early_is in
    let late_script : p2.settings.script ≡ p.settings.script = ap (λ (t : TextSettings). t.script) h.settings.late_is in
    let early_line : IsNativeLine p1.settings.script earlier.view.direction = subst (λ s. IsNativeLine s earlier.view.direction) (sym early_script) (subst (IsNativeLine p.settings.script) (sym broken.early_of.direction) native) in
    let late_line : IsNativeLine p2.settings.script later.view.direction = subst (λ s. IsNativeLine s later.view.direction) (sym late_script) (subst (IsNativeLine p.settings.script) (sym broken.late_of.direction) native) in
    let early_mine = early_rules p p1 p2 mine h rules in
    let late_mine = late_rules p p1 p2 mine h rules in
    let early_some = broken.early_some in
    let late_some = broken.late_some in
    let early_count = broken.early_whole.origins in
    let late_count = broken.late_whole.origins in
    let some : 0 < length earlier.view.items = omega (arith, early_some, early_count) in
    let more : 0 < length later.view.items = omega (arith, late_some, late_count) in
    let begun = begun_all p p1 p2 c whole earlier later w.begun e.begun l.begun h knows ready broken native w.begun_is e.begun_is l.begun_is in
    let items = begun_plainly p2 later l.begun late_line (late_wants p.settings p1.settings p2.settings h.settings) l.begun_is in
    let ends : OrderEndsUnjoined p.rules.reorders = subst (λ (k : ShaperRules). OrderEndsUnjoined k.reorders) (sym rules) (order_ends HANGUL_SHAPER) in
    elim begun.1 [
      | inl unsafe ↦ inl (subst (λ (s : BufferState). IsUnsafeAt c s.origins) (sym (hangul_own plan p whole w rules))
          (hangul_unsafe p.font (wants_circles p.settings.flags) c (state_after w.begun whole) begun.0.breakable begun.0.given unsafe))
      | inr cluster ↦
          let early_font : p1.font ≡ p.font = ap (λ (q : Shaping). q.font) h.early_is in
          let late_font : p2.font ≡ p.font = ap (λ (q : Shaping). q.font) h.late_is in
          let first = begun_first (normalizer p2) p2.map.global_mask later.view.items late_marks more cluster in
          inr (ready_apart (normalizer p) (has_later_mark_of_hangul p.font us ≡ true) (list_any is_mark_character us ≡ false) (has_later_mark_of_hangul p.font vs ≡ true) (list_any is_mark_character vs ≡ false) us vs
          (turned_state p1 (own_state p1 earlier e)).view.items (turned_state p2 (own_state p2 later l)).view.items marks ends may.marks may.ends
          (subst (λ (f : FaceParts). IsReadyHangul f us (turned_state p1 (own_state p1 earlier e)).view.items) early_font (hangul_ready plan p1 earlier e early_mine early_marks early_line some))
          (subst (λ (f : FaceParts). IsReadyHangul f vs (turned_state p2 (own_state p2 later l)).view.items) late_font (hangul_ready plan p2 later l late_mine late_marks late_line more))
          (late_first plan p2 later l late_mine late_marks items first (ap (λ (f : FaceParts). begins_toned f vs) late_font ∙ toneless)))
    ]

pub hangul_characters_divide : HangulCharactersDivide
hangul_characters_divide plan p p1 p2 c whole earlier later r e l rules h marks knows ready broken native toneless may is_r is_e is_l =
    hangul_texts_divide plan p p1 p2 c whole earlier later r e l rules h knows ready broken native (hangul_apart plan p p1 p2 c whole earlier later rules h marks knows ready broken native toneless may) is_r is_e is_l

-- Texts of the Thai shaper, up to the masks of ranges, by the characters of the two that a text is broken into.
use Rattle.std.proofs.Common.{ℕ, ◌≡◌, ◌<◌, ◌||◌, inl, inr, Bool, true, false, List, [], ◌∷◌, length, arith, refl, sym, ap, subst, ◌∙◌}
use Rattle.std.specs.Prelude.{⊤, codes}
use Rattle.std.specs.List.{list_any}
use Rattle.std.proofs.lemmas.Bool.{cond-false}
use Rattle.buffer_glyphs.specs.Items.{Item}
use Rattle.buffer_unicode_tables.specs.Tables.{Tables}
use Rattle.buffer_core.specs.Readings.{BufferState, View, state_after}
use Rattle.buffer_stages.specs.Settings.{TextSettings}
use Rattle.buffer_parts.specs.Breaks.Unsafe.{IsUnsafeAt}
use Rattle.buffer_parts.specs.Breaks.Divisible.{IsBreakable}
use Rattle.buffer_properties.specs.Properties.{is_mark_character}
use Rattle.layout_face.specs.declared.parts.FaceParts.{FaceParts}
use Rattle.layout_map.specs.Masks.{mask_at_one}
use Rattle.script_categories.specs.declared.shaper.hb_ot_script_shaper_t.TheVariants.{THAI_SHAPER}
use Rattle.script_dispatch.specs.Rules.{script_rules}
use Rattle.script_plan.specs.Rules.{ShaperRules}
use Rattle.script_plan.specs.declared.plan.hb_script_plan_t.{hb_script_plan_t}
use Rattle.script_thai.specs.declared.thai_private.Consonant.TheVariants.{NotConsonant}
use Rattle.script_thai.specs.Texts.{has_private_forms}
use Rattle.script_thai.specs.ThaiPrivate.{items_shaped, numbers_of, start_state}
use Rattle.script_thai.specs.ThaiVowel.{text_with_splits}
use Rattle.shape_pipeline.specs.Characters.{normalizer}
use Rattle.shape_pipeline.specs.Shaping.{Shaping}
use Rattle.shape_laws.specs.Breaks.Chains.{CharacterReads, NormalizesApart, own_state, turned_state}
use Rattle.shape_laws.specs.Breaks.ChainLaws.{BeginsPlainly, ThaiCharactersDivide}
use Rattle.shape_laws.specs.Breaks.Characters.{KeepsMarks, OrderEndsUnjoined, characters}
use Rattle.shape_laws.specs.Breaks.Texts.{AreBroken, AreBrokenShapings, IsNativeLine, KnowsGraphemes}
use Rattle.shape_laws.specs.Breaks.ThaiCharacters.{IsMarkedText, IsUnmarkedText, KeepsPrivateMarks, MayBreakThai}
use Rattle.shape_laws.proofs.BreakLemmas.Marks.{circled_early, early_is}
use Rattle.shape_laws.proofs.BreakLemmas.Plain.{normalizer_alike}
use Rattle.shape_laws.proofs.BreakLemmas.Raw.{begun_plainly}
use Rattle.shape_laws.proofs.BreakLemmas.Scripts.{early_rules, late_rules, order_ends}
use Rattle.shape_laws.proofs.BreakLemmas.Seen.{FirstPlainly, IsKept, IsReady, IsSeenText, begun_first, begun_seen, kept_same, ready_apart, ready_kept, rotated_kept, seen_some}
use Rattle.shape_laws.proofs.BreakLemmas.Stages.{begun_all, late_wants}
use Rattle.shape_laws.proofs.BreakLemmas.Thai.{BeginsNoVowel, BeginsThai, first_stays, private_read, private_state, thai_read, vowels_begin, vowels_items, vowels_keep, vowels_state}
use Rattle.shape_laws.proofs.BreakLemmas.ThaiRaw.{circled_marked, plain_marked, plain_unmarked}
use Rattle.shape_laws.proofs.BreakLemmas.ThaiTexts.{thai_begins, thai_stage, thai_texts_divide}
use Rattle.shape_laws.proofs.BreakLemmas.ThaiMarks.{shaped_last, shaped_later, shaped_low, shaped_marks, shaped_plainly, vowels_last, vowels_low}
use Rattle.shape_laws.proofs.BreakLemmas.Vowels.{vowels_left}
use Rattle.script_dispatch.specs.Lemmas.Keeping.Hangul.{shaped_long as shaped_many}

-- ---- private forms

private_kept : (b : Bool) (t : Tables) (font : FaceParts) (v : View) → KeepsPrivateMarks t → IsKept v.items (private_read b t font v).view.items
private_kept false t font v h = kept_same v.items
private_kept true t font v h =
    let s = start_state NotConsonant in
    record { low = shaped_low t font s v.items h; last = shaped_last t font s false false v.items h (inl refl); later = shaped_later t font s v.items; marks = shaped_marks t font s v.items; many = shaped_many t font s v.items }

private_first : (b : Bool) (t : Tables) (font : FaceParts) (v : View) → KeepsPrivateMarks t → FirstPlainly v.items → FirstPlainly (private_read b t font v).view.items
private_first false t font v h p = p
private_first true t font v h p = by_items v.items p
  where
    by_items : (zs : List Item) → FirstPlainly zs → FirstPlainly (items_shaped t font (start_state NotConsonant) zs)
    by_items [] k = absurd k
    by_items (z ∷ zs) k = shaped_plainly t font (start_state NotConsonant) z (numbers_of zs) h k

-- ---- an earlier text, and a later one, once vowels are decomposed

-- a text at normalizing, by its characters
abbrev IsReadyThai : List Item → List Item → Type 0
IsReadyThai xs zs = IsReady (IsMarkedText xs) (IsUnmarkedText xs) (characters xs) zs

any_character : (ys : List Item) → list_any is_mark_character (characters ys) ≡ list_any (λ (y : Item). is_mark_character y.number) ys
any_character [] = refl
any_character (y ∷ ys) = ap (λ b. is_mark_character y.number || b) (any_character ys)

vowels_ready : (xs zs : List Item) → 0 < length zs → IsSeenText (characters xs) zs → IsReadyThai xs (text_with_splits [] zs)
vowels_ready xs zs some (inl plain) =
    let early = early_is (characters xs) zs plain.of some in
    record {
      low = vowels_low [] zs tt early.low;
      last = λ e. vowels_last false [] zs (early.ends e);
      some = vowels_left zs some;
      later = plain_marked xs zs plain.of plain.numbers;
      none = plain_unmarked xs zs plain.of plain.numbers;
    }
vowels_ready xs zs some (inr circled) =
    let early = circled_early (characters xs) zs circled.0.of circled.1 some in
    record {
      low = vowels_low [] zs tt early.low;
      last = λ e. vowels_last false [] zs (early.ends e);
      some = vowels_left zs some;
      later = circled_marked xs zs circled.0.of circled.0.numbers;
      none = λ h. let marked = circled.1 in let none = any_character xs ∙ h.0 in cc;
    }

-- ---- two texts

-- the state of a text after its shaper's preprocessing
thai_own : (plan : hb_script_plan_t ⊤) (q : Shaping) (s : BufferState) (d : CharacterReads q s) → q.rules ≡ script_rules THAI_SHAPER plan → own_state q s d ≡ private_state (has_private_forms plan.map plan.script) q.tables q.font (vowels_state (state_after d.begun s))
thai_own plan q s d rules = thai_read plan.map plan.script q.tables q.font (state_after d.begun s) d.own (sym (thai_stage plan q q d.begun.view rules refl refl refl) ∙ d.own_is)

-- what its items are at normalizing
thai_ready : (plan : hb_script_plan_t ⊤) (q : Shaping) (s : BufferState) (d : CharacterReads q s) → q.rules ≡ script_rules THAI_SHAPER plan → KeepsMarks (normalizer q) → KeepsPrivateMarks q.tables → IsNativeLine q.settings.script s.view.direction → 0 < length (state_after d.begun s).view.items
    → IsReadyThai s.view.items (turned_state q (own_state q s d)).view.items
thai_ready plan q s d rules h private native some =
    let b = has_private_forms plan.map plan.script in
    let v = vowels_state (state_after d.begun s) in
    let one = vowels_ready s.view.items (state_after d.begun s).view.items some (begun_seen q s d.begun h native d.begun_is) in
    let two = ready_kept (IsMarkedText s.view.items) (IsUnmarkedText s.view.items) (characters s.view.items) v.view.items (private_state b q.tables q.font v).view.items (subst (IsReadyThai s.view.items) (sym (vowels_items (state_after d.begun s))) one) (private_kept b q.tables q.font v.view private) in
    let turned = rotated_kept (normalizer q) q.font q.direction (mask_at_one (codes "rtlm") q.map) q.choices.has_vert (private_state b q.tables q.font v).view h in
    subst (λ (t : BufferState). IsReadyThai s.view.items (turned_state q t).view.items) (sym (thai_own plan q s d rules)) (ready_kept (IsMarkedText s.view.items) (IsUnmarkedText s.view.items) (characters s.view.items) (private_state b q.tables q.font v).view.items (turned_state q (private_state b q.tables q.font v)).view.items two turned.kept)

-- a later text begins with no mark at normalizing
first_plainly : (ys zs : List Item) → zs ≡ ys → FirstPlainly ys → BeginsThai ys → BeginsNoVowel ys → FirstPlainly (text_with_splits [] zs)
first_plainly [] zs e p h k = absurd p
first_plainly (y ∷ ys) zs e p h k =
    let stays = first_stays y [] ys h.1 in
    let same : text_with_splits [] zs ≡ y ∷ stays.0 = ap (text_with_splits []) e ∙ ap (λ o. text_with_splits o ys) (cond-false _ _ _ k) ∙ stays.1 in
    subst FirstPlainly (sym same) p

private_unsafe : (b : Bool) (t : Tables) (font : FaceParts) (c : ℕ) (s : BufferState) → IsUnsafeAt c s.origins → IsUnsafeAt c (private_state b t font s).origins
private_unsafe true t font c s u = u
private_unsafe false t font c s u = u

pub thai_apart : (plan : hb_script_plan_t ⊤) (p p1 p2 : Shaping) (c : ℕ) (whole earlier later : BufferState) → p.rules ≡ script_rules THAI_SHAPER plan → AreBrokenShapings p p1 p2 → KeepsMarks (normalizer p) → KeepsPrivateMarks p.tables → KnowsGraphemes p.tables → IsBreakable whole
    → AreBroken c whole earlier later → IsNativeLine p.settings.script whole.view.direction → BeginsPlainly later.view.items → MayBreakThai earlier.view.items later.view.items → NormalizesApart c p p1 p2 whole earlier later
thai_apart plan p p1 p2 c whole earlier later rules h marks private knows ready broken native plain may w e l =
    let mine = script_rules THAI_SHAPER plan in
    let b = has_private_forms plan.map plan.script in
    let early_same = normalizer_alike p p1 h.early_is (ap (λ (t : TextSettings). t.invisible) h.settings.early_is) (ap (λ (t : TextSettings). t.not_found_variation_selector) h.settings.early_is) (ap (λ (t : TextSettings). t.not_found) h.settings.early_is) in
    let late_same = normalizer_alike p p2 h.late_is (ap (λ (t : TextSettings). t.invisible) h.settings.late_is) (ap (λ (t : TextSettings). t.not_found_variation_selector) h.settings.late_is) (ap (λ (t : TextSettings). t.not_found) h.settings.late_is) in
    let early_marks = subst KeepsMarks (sym early_same) marks in
    let late_marks = subst KeepsMarks (sym late_same) marks in
    let early_private : KeepsPrivateMarks p1.tables = subst (λ (q : Shaping). KeepsPrivateMarks q.tables) (sym h.early_is) private in
    let late_private : KeepsPrivateMarks p2.tables = subst (λ (q : Shaping). KeepsPrivateMarks q.tables) (sym h.late_is) private in
    let early_script : p1.settings.script ≡ p.settings.script = ap (λ (t : TextSettings). t.script) h.settings.early_is in
    let late_script : p2.settings.script ≡ p.settings.script = ap (λ (t : TextSettings). t.script) h.settings.late_is in
    let early_line : IsNativeLine p1.settings.script earlier.view.direction = subst (λ s. IsNativeLine s earlier.view.direction) (sym early_script) (subst (IsNativeLine p.settings.script) (sym broken.early_of.direction) native) in
    let late_line : IsNativeLine p2.settings.script later.view.direction = subst (λ s. IsNativeLine s later.view.direction) (sym late_script) (subst (IsNativeLine p.settings.script) (sym broken.late_of.direction) native) in
    let early_mine = early_rules p p1 p2 mine h rules in
    let late_mine = late_rules p p1 p2 mine h rules in
    let early_some = broken.early_some in
    let late_some = broken.late_some in
    let early_count = broken.early_whole.origins in
    let late_count = broken.late_whole.origins in
    let more : 0 < length later.view.items = omega (arith, late_some, late_count) in
    let some : 0 < length earlier.view.items = omega (arith, early_some, early_count) in
    let begun = begun_all p p1 p2 c whole earlier later w.begun e.begun l.begun h knows ready broken native w.begun_is e.begun_is l.begun_is in
    let W = state_after w.begun whole in
    let E = state_after e.begun earlier in
    let L = state_after l.begun later in
    let items = begun_plainly p2 later l.begun late_line (late_wants p.settings p1.settings p2.settings h.settings) l.begun_is in
    let ends : OrderEndsUnjoined p.rules.reorders = subst (λ (k : ShaperRules). OrderEndsUnjoined k.reorders) (sym rules) (order_ends THAI_SHAPER) in
    let own = thai_own plan p whole w rules in
    elim begun.1 [
      | inl unsafe ↦ inl (subst (λ (s : BufferState). IsUnsafeAt c s.origins) (sym own) (private_unsafe b p.tables p.font c (vowels_state W) (vowels_keep c W begun.0.breakable begun.0.given unsafe)))
      | inr cluster ↦
          let begins : BeginsThai L.view.items = subst BeginsThai (sym items) (thai_begins p2.tables p2.map.global_mask later.view.items cluster plain) in
          elim (vowels_begin c W E L begun.0 (inr begins)) [
            | inl unsafe ↦ inl (subst (λ (s : BufferState). IsUnsafeAt c s.origins) (sym own) (private_unsafe b p.tables p.font c (vowels_state W) unsafe))
            | inr both ↦
                let first : FirstPlainly L.view.items = subst FirstPlainly (sym items) (begun_first (normalizer p2) p2.map.global_mask later.view.items late_marks more cluster) in
                let vowels : FirstPlainly (vowels_state L).view.items = subst FirstPlainly (sym (vowels_items L)) (first_plainly L.view.items L.view.items refl first begins both.1) in
                let shaped = private_first b p2.tables p2.font (vowels_state L).view late_private vowels in
                let turned = rotated_kept (normalizer p2) p2.font p2.direction (mask_at_one (codes "rtlm") p2.map) p2.choices.has_vert (private_state b p2.tables p2.font (vowels_state L)).view late_marks in
                let late_first : FirstPlainly (turned_state p2 (own_state p2 later l)).view.items =
                subst (λ (t : BufferState). FirstPlainly (turned_state p2 t).view.items) (sym (thai_own plan p2 later l late_mine)) (turned.first shaped) in
                inr (ready_apart (normalizer p) (IsMarkedText earlier.view.items) (IsUnmarkedText earlier.view.items) (IsMarkedText later.view.items) (IsUnmarkedText later.view.items) (characters earlier.view.items) (characters later.view.items)
                (turned_state p1 (own_state p1 earlier e)).view.items (turned_state p2 (own_state p2 later l)).view.items marks ends may.marks may.ends
                (thai_ready plan p1 earlier e early_mine early_marks early_private early_line (seen_some earlier.view.items E.view.items some (begun_seen p1 earlier e.begun early_marks early_line e.begun_is)))
                (thai_ready plan p2 later l late_mine late_marks late_private late_line (seen_some later.view.items L.view.items more (begun_seen p2 later l.begun late_marks late_line l.begun_is))) late_first)
          ]
    ]

pub thai_characters_divide : ThaiCharactersDivide
thai_characters_divide plan p p1 p2 c whole earlier later r e l rules h marks private knows ready broken native plain may is_r is_e is_l =
    thai_texts_divide plan p p1 p2 c whole earlier later r e l rules h knows ready broken native plain (thai_apart plan p p1 p2 c whole earlier later rules h marks private knows ready broken native plain may) is_r is_e is_l

-- Where a text that is broken into two is normalized in two, by its characters.
use Rattle.std.proofs.Common.{ℕ, suc, ◌≡◌, ◌<◌, ◌==◌, ◌||◌, ◌&&◌, ◌⊎◌, inl, inr, Bool, true, false, List, [], ◌∷◌, length, map, None, Ok, arith, refl, sym, ap, subst, ◌∙◌}
use Rattle.std.specs.List.{list_any}
use Rattle.std.proofs.lemmas.Bool.{and_parts}
use Rattle.std.specs.Prelude.{is_some}
use Rattle.buffer_common.specs.declared.constants.BufferFlags.{BufferFlags}
use Rattle.buffer_glyphs.specs.Items.{Item, item_masked}
use Rattle.buffer_core.specs.Readings.{BufferState, Read, View, state_after}
use Rattle.buffer_properties.proofs.Classes.{mark_numbers}
use Rattle.buffer_properties.specs.Characters.{is_mark, is_mark_number}
use Rattle.buffer_properties.specs.Normalizer.{Normalizer}
use Rattle.buffer_properties.specs.Properties.{is_mark_character}
use Rattle.buffer_stages.specs.Settings.{TextSettings}
use Rattle.buffer_parts.specs.Breaks.Unsafe.{IsUnsafeAt}
use Rattle.layout_face.specs.declared.parts.FaceParts.{FaceParts}
use Rattle.layout_face.specs.Glyphs.{nominal_glyph}
use Rattle.unicode.specs.GeneralCategory.{general_category}
use Rattle.shape_text.specs.Circle.{DOTTED_CIRCLE, begins_with_mark, circled_items, flags_want_circle, needs_circle}
use Rattle.shape_text.specs.Graphemes.{continues, is_emoji_modifier, is_extender, is_other_extender}
use Rattle.shape_text.specs.NativeOrder.{without_continuation}
use Rattle.shape_text.specs.Properties.{items_prepared, prepared_item}
use Rattle.std.proofs.lemmas.List.{length-map}
use Rattle.layout_map.specs.Masks.{mask_at_one}
use Rattle.std.specs.Prelude.{codes}
use Rattle.shape_pipeline.specs.Characters.{normalizer, text_begun}
use Rattle.shape_pipeline.specs.Shaping.{Shaping, preprocessing_stage}
use Rattle.shape_laws.specs.Breaks.Chains.{CharacterReads, own_state, turned_state}
use Rattle.shape_laws.specs.Breaks.ChainLaws.{CharactersNormalizeApart}
use Rattle.shape_laws.specs.Breaks.Characters.{KeepsMarks, MayBreak, OrderEndsUnjoined, PreprocessesNothing, characters}
use Rattle.shape_laws.specs.Breaks.Normalizing.{AreNormalizedApart}
use Rattle.shape_laws.specs.Breaks.Texts.{IsNativeLine}
use Rattle.shape_laws.proofs.BreakLemmas.Begun.{masked_state, prepared_state}
use Rattle.shape_laws.proofs.BreakLemmas.BegunTexts.{BeginsCluster, begun_items, limited_state}
use Rattle.shape_laws.proofs.BreakLemmas.Circled.{circle_if}
use Rattle.shape_laws.proofs.BreakLemmas.Marks.{AreOf, IsEarly, characters_apart, circled_are, circled_early, early_is, prepared_are, rotated_are, word_category}
use Rattle.shape_laws.proofs.BreakLemmas.Plain.{normalizer_alike, same_left}
use Rattle.shape_laws.proofs.BreakLemmas.Stages.{begun_all, begun_is, late_wants}

-- ---- one text

pub masked_characters : (mask : ℕ) (xs : List Item) → characters (map (item_masked mask) xs) ≡ characters xs
masked_characters mask [] = refl
masked_characters mask (x ∷ xs) = ap (λ us. x.number ∷ us) (masked_characters mask xs)

-- items are of characters, or of these after a circle, where one of them is a mark
abbrev AreOfText : List ℕ → List Item → Type 0
AreOfText us zs = AreOf us zs ⊎ (AreOf (DOTTED_CIRCLE ∷ us) zs × (list_any is_mark_character us ≡ true))

pub marked : (k : Normalizer) (b : Bool) (x : Item) → is_mark (prepared_item k.tables b x) ≡ is_mark_character x.number
marked k b x = ap is_mark_number (word_category b x.number) ∙ mark_numbers (general_category x.number)

pub needs_mark : (flags : BufferFlags) (context : List ℕ) (font : FaceParts) (xs : List Item) → needs_circle flags context font xs ≡ true → begins_with_mark xs ≡ true
needs_mark flags context font xs e =
    let all = and_parts (flags_want_circle flags && length context == 0 && begins_with_mark xs) (is_some (nominal_glyph DOTTED_CIRCLE font)) e in
    (and_parts (flags_want_circle flags && length context == 0) (begins_with_mark xs) all.0).1

pub first_marked : (us : List ℕ) (u : ℕ) → is_mark_character u ≡ true → list_any is_mark_character (u ∷ us) ≡ true
first_marked us u e = ap (λ b. b || list_any is_mark_character us) e

circled_text : (k : Normalizer) (b : Bool) (flags : BufferFlags) (context : List ℕ) (font : FaceParts) (xs : List Item) (v : View) → KeepsMarks k → v.items ≡ items_prepared k.tables None xs → needs_circle flags context font (items_prepared k.tables None xs) ≡ b
    → AreOfText (characters xs) (map without_continuation (circle_if b k.tables v).view.items)
circled_text k false flags context font xs v h e need = inl (subst (λ zs. AreOf (characters xs) (map without_continuation zs)) (sym e) (prepared_are k None xs h))
circled_text k true flags context font [] v h e need = let mark = needs_mark flags context font [] need in cc
circled_text k true flags context font (x ∷ xs) v h e need =
    let mark = needs_mark flags context font (items_prepared k.tables None (x ∷ xs)) need in
    let all = prepared_are k None (x ∷ xs) h in
    inr (
      subst (λ zs. AreOf (DOTTED_CIRCLE ∷ characters (x ∷ xs)) (map without_continuation (circled_items k.tables zs))) (sym e) (circled_are k (prepared_item k.tables (continues k.tables None x.number) x) (characters (x ∷ xs)) (map without_continuation (items_prepared k.tables None (x ∷ xs))) all),
      first_marked (characters xs) x.number (sym (marked k (continues k.tables None x.number) x) ∙ mark),
    )

-- the view of a text with its properties
abbrev pub prepared_view : Shaping → BufferState → View
prepared_view q s = (prepared_state q.tables (masked_state q.map.global_mask (limited_state s))).view

-- whether a text gets a circle
abbrev pub needs : Shaping → BufferState → Bool
needs q s = needs_circle q.settings.flags q.settings.pre_context q.font (items_prepared q.tables None (map (item_masked q.map.global_mask) s.view.items))

pub begun_is_circled : (q : Shaping) (s : BufferState) (r : Read) → IsNativeLine q.settings.script s.view.direction → text_begun q s.view ≡ Ok r → (state_after r s).view.items ≡ map without_continuation (circle_if (needs q s) q.tables (prepared_view q s)).view.items
begun_is_circled q s r native is = begun_items q.map.global_mask q.tables q.font q.settings.script q.settings.flags q.settings.pre_context s r native (begun_is q s.view r is)

-- the items of a text after the first pipeline stage
begun_text : (q : Shaping) (s : BufferState) (r : Read) → KeepsMarks (normalizer q) → IsNativeLine q.settings.script s.view.direction → text_begun q s.view ≡ Ok r → AreOfText (characters s.view.items) (state_after r s).view.items
begun_text q s r h native is =
    let xs = map (item_masked q.map.global_mask) s.view.items in
    let all = circled_text (normalizer q) (needs q s) q.settings.flags q.settings.pre_context q.font xs (prepared_view q s) h refl refl in
    subst (λ us. AreOfText us (state_after r s).view.items) (masked_characters q.map.global_mask s.view.items) (subst (AreOfText (characters xs)) (sym (begun_is_circled q s r native is)) all)

-- those of a text that gets no circle
begun_late : (q : Shaping) (s : BufferState) (r : Read) → KeepsMarks (normalizer q) → IsNativeLine q.settings.script s.view.direction → flags_want_circle q.settings.flags ≡ false → text_begun q s.view ≡ Ok r → AreOf (characters s.view.items) (state_after r s).view.items
begun_late q s r h native none is =
    let xs = map (item_masked q.map.global_mask) s.view.items in
    let same = begun_is_circled q s r native is ∙ ap (λ b. map without_continuation (circle_if b q.tables (prepared_view q s)).view.items) (no_need (items_prepared q.tables None xs)) in
    subst (λ us. AreOf us (state_after r s).view.items) (masked_characters q.map.global_mask s.view.items) (subst (AreOf (characters xs)) (sym same) (prepared_are (normalizer q) None xs h))
  where
    no_need : (zs : List Item) → needs_circle q.settings.flags q.settings.pre_context q.font zs ≡ false
    no_need zs = rw none refl

-- the items of a text that gets no circle
pub begun_plainly : (q : Shaping) (s : BufferState) (r : Read) → IsNativeLine q.settings.script s.view.direction → flags_want_circle q.settings.flags ≡ false → text_begun q s.view ≡ Ok r
    → (state_after r s).view.items ≡ map without_continuation (items_prepared q.tables None (map (item_masked q.map.global_mask) s.view.items))
begun_plainly q s r native none is =
    begun_is_circled q s r native is ∙ ap (λ b. map without_continuation (circle_if b q.tables (prepared_view q s)).view.items) (no_need (items_prepared q.tables None (map (item_masked q.map.global_mask) s.view.items)))
  where
    no_need : (zs : List Item) → needs_circle q.settings.flags q.settings.pre_context q.font zs ≡ false
    no_need zs = rw none refl

of_many : (us : List ℕ) (zs : List Item) → AreOf us zs → length zs ≡ length us
of_many [] [] p = refl
of_many [] (z ∷ zs) p = absurd p
of_many (u ∷ us) [] p = absurd p
of_many (u ∷ us) (z ∷ zs) p = ap suc (of_many us zs p.1)

-- ---- the text at normalizing

-- a shaper's preprocessing that changes nothing leaves the state
pub own_is_begun : (q : Shaping) (s : BufferState) (d : CharacterReads q s) → PreprocessesNothing q.rules → own_state q s d ≡ state_after d.begun s
own_is_begun q s d nothing = same_left (preprocessing_stage q) (state_after d.begun s) d.own (nothing q.font q.tables q.settings) d.own_is

turned_text : (q : Shaping) (us : List ℕ) (s : BufferState) → KeepsMarks (normalizer q) → AreOf us s.view.items → AreOf us (turned_state q s).view.items
turned_text q us s h p = rotated_are (normalizer q) q.font q.direction (mask_at_one (codes "rtlm") q.map) q.choices.has_vert us s.view h p

early_text : (q : Shaping) (s : BufferState) (d : CharacterReads q s) → KeepsMarks (normalizer q) → PreprocessesNothing q.rules → IsNativeLine q.settings.script s.view.direction → 0 < length s.view.items → IsEarly (characters s.view.items) (turned_state q (own_state q s d)).view.items
early_text q s d h nothing native some =
    let us = characters s.view.items in
    let count : length us ≡ length s.view.items = length-map s.view.items (λ (x : Item). x.number) in
    subst (λ (t : BufferState). IsEarly us (turned_state q t).view.items) (sym (own_is_begun q s d nothing)) (elim (begun_text q s d.begun h native d.begun_is) [
      | inl plain ↦
          let p = turned_text q us (state_after d.begun s) h plain in
          let many = of_many us (turned_state q (state_after d.begun s)).view.items p in
          early_is us (turned_state q (state_after d.begun s)).view.items p (omega (arith, many, count, some))
      | inr circled ↦
          let p = turned_text q (DOTTED_CIRCLE ∷ us) (state_after d.begun s) h circled.0 in
          let many = of_many (DOTTED_CIRCLE ∷ us) (turned_state q (state_after d.begun s)).view.items p in
          circled_early us (turned_state q (state_after d.begun s)).view.items p circled.1 (omega (arith, many))
    ])

late_text : (q : Shaping) (s : BufferState) (d : CharacterReads q s) → KeepsMarks (normalizer q) → PreprocessesNothing q.rules → IsNativeLine q.settings.script s.view.direction → flags_want_circle q.settings.flags ≡ false → AreOf (characters s.view.items) (turned_state q (own_state q s d)).view.items
late_text q s d h nothing native none =
    subst (λ (t : BufferState). AreOf (characters s.view.items) (turned_state q t).view.items) (sym (own_is_begun q s d nothing)) (turned_text q (characters s.view.items) (state_after d.begun s) h (begun_late q s d.begun h native none d.begun_is))

-- ---- two texts

pub extends_not : (u : ℕ) → is_extender u ≡ false → is_mark_character u ≡ false
extends_not u e = by_test (is_mark_character u) e
  where
    by_test : (b : Bool) → (b || is_emoji_modifier u || (u == 0x200D) || is_other_extender u) ≡ false → b ≡ false
    by_test true f = cc
    by_test false f = refl

apart_by : (k : Normalizer) (us : List ℕ) (ys zs xs : List Item) → KeepsMarks k → OrderEndsUnjoined k.reorders → MayBreak us (characters ys) → BeginsCluster ys → 0 < length ys → IsEarly us xs → AreOf (characters ys) zs → AreNormalizedApart k xs zs
apart_by k us [] zs xs h ends may begins some early late = absurd (omega (arith, some))
apart_by k us (y ∷ ys) zs xs h ends may begins some early late = characters_apart k us (characters ys) y.number xs zs h ends may (extends_not y.number begins) early late

pub raw_apart : CharactersNormalizeApart
raw_apart p p1 p2 c whole earlier later h nothing keeps ends knows ready broken native may w e l =
    let early_same = normalizer_alike p p1 h.early_is (ap (λ (t : TextSettings). t.invisible) h.settings.early_is) (ap (λ (t : TextSettings). t.not_found_variation_selector) h.settings.early_is) (ap (λ (t : TextSettings). t.not_found) h.settings.early_is) in
    let late_same = normalizer_alike p p2 h.late_is (ap (λ (t : TextSettings). t.invisible) h.settings.late_is) (ap (λ (t : TextSettings). t.not_found_variation_selector) h.settings.late_is) (ap (λ (t : TextSettings). t.not_found) h.settings.late_is) in
    let early_nothing : PreprocessesNothing p1.rules = subst (λ (q : Shaping). PreprocessesNothing q.rules) (sym h.early_is) nothing in
    let late_nothing : PreprocessesNothing p2.rules = subst (λ (q : Shaping). PreprocessesNothing q.rules) (sym h.late_is) nothing in
    let early_script : p1.settings.script ≡ p.settings.script = ap (λ (t : TextSettings). t.script) h.settings.early_is in
    let late_script : p2.settings.script ≡ p.settings.script = ap (λ (t : TextSettings). t.script) h.settings.late_is in
    let early_line : IsNativeLine p1.settings.script earlier.view.direction = subst (λ s. IsNativeLine s earlier.view.direction) (sym early_script) (subst (IsNativeLine p.settings.script) (sym broken.early_of.direction) native) in
    let late_line : IsNativeLine p2.settings.script later.view.direction = subst (λ s. IsNativeLine s later.view.direction) (sym late_script) (subst (IsNativeLine p.settings.script) (sym broken.late_of.direction) native) in
    let early_count = broken.early_whole.origins in
    let late_count = broken.late_whole.origins in
    let early_some = broken.early_some in
    let late_some = broken.late_some in
    let begun = begun_all p p1 p2 c whole earlier later w.begun e.begun l.begun h knows ready broken native w.begun_is e.begun_is l.begun_is in
    elim begun.1 [
      | inl unsafe ↦ inl (subst (λ (s : BufferState). IsUnsafeAt c s.origins) (sym (own_is_begun p whole w nothing)) unsafe)
      | inr begins ↦
          inr (apart_by (normalizer p) (characters earlier.view.items) later.view.items (turned_state p2 (own_state p2 later l)).view.items (turned_state p1 (own_state p1 earlier e)).view.items keeps ends may begins (omega (arith, late_some, late_count))
          (early_text p1 earlier e (subst KeepsMarks (sym early_same) keeps) early_nothing early_line (omega (arith, early_some, early_count)))
          (late_text p2 later l (subst KeepsMarks (sym late_same) keeps) late_nothing late_line (late_wants p.settings p1.settings p2.settings h.settings)))
    ]

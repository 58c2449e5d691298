-- Contexts that show the letters of two texts show those of the texts as they are when their letters get their forms.
use Rattle.std.proofs.Common.{ℕ, ◌≡◌, ◌==◌, ◌||◌, ◌&&◌, ◌⊎◌, inl, inr, not, Bool, true, false, if◌then◌else◌, eqb-true, List, [], ◌∷◌, length, map, Option, None, Some, arith, refl, sym, ap, subst, ◌∙◌}
use Rattle.std.specs.Int.RustNames.{bit_and}
use Rattle.std.specs.List.{All}
use Rattle.std.specs.Prelude.{codes, is_some}
use lib.Utf8.{scalar}
use Rattle.std.proofs.lemmas.Bool.{and_parts}
use Rattle.std.proofs.lemmas.List.Elements.{All-cons, All-head, All-nil, All-tail}
use Rattle.unicode.specs.GeneralCategory.{general_category}
use Rattle.buffer_unicode.specs.Category.{category_number}
use Rattle.buffer_common.specs.Direction.{is_backward, is_vertical}
use Rattle.buffer_common.specs.declared.constants.BufferFlags.{BufferFlags}
use Rattle.buffer_common.specs.declared.direction.Direction.{Direction}
use Rattle.buffer_unicode_tables.specs.Tables.{Tables, counterpart_in}
use Rattle.buffer_glyphs.specs.Items.{Item, item_masked}
use Rattle.buffer_core.specs.Readings.{BufferState, View, state_after}
use Rattle.buffer_properties.proofs.Words.{continuation_leaves, low_bits_are_the_category}
use Rattle.buffer_properties.specs.Characters.{category_of, is_mark, mark_class}
use Rattle.buffer_properties.specs.NormalizedList.{has_later_mark, ordering_if}
use Rattle.buffer_properties.specs.Expanding.{expanded_list}
use Rattle.buffer_properties.specs.Normalizer.{Normalizer, is_composing}
use Rattle.layout_face.specs.declared.parts.FaceParts.{FaceParts}
use Rattle.layout_face.specs.Glyphs.{nominal_glyph}
use Rattle.layout_map.specs.Masks.{mask_at_one}
use Rattle.script_joining.specs.Joining.{is_letter, types_of_characters, types_of_items}
use Rattle.script_joining.specs.Types.{joining_type, type_of_character, type_of_item}
use Rattle.shape_text.specs.declared.graphemes.Before.{Before}
use Rattle.shape_text.specs.Circle.{DOTTED_CIRCLE, begins_with_mark, circle_like, circled_items, flags_want_circle, needs_circle}
use Rattle.shape_text.specs.Fractions.{with_fractions}
use Rattle.shape_text.specs.Graphemes.{continues}
use Rattle.shape_text.specs.NativeOrder.{without_continuation}
use Rattle.shape_text.specs.Properties.{items_prepared, next_before, prepared_item, property_word_of}
use Rattle.shape_text.specs.Rotation.{mapped_where, mirror_image, mirrored_item, mirrored_or, upright_or, vertical_form, with_rotated_characters, with_vertical_form}
use Rattle.shape_pipeline.specs.Characters.{normalizer}
use Rattle.shape_pipeline.specs.Masks.{fraction_masks}
use Rattle.shape_pipeline.specs.Shaping.{Shaping}
use Rattle.shape_laws.specs.Breaks.Chains.{CharacterReads, fractions_state, own_state, turned_state, unmasked_state}
use Rattle.shape_laws.specs.Breaks.Characters.{PreprocessesNothing, characters}
use Rattle.shape_laws.specs.Breaks.Texts.{IsNativeLine}
use Rattle.shape_laws.specs.Breaks.Types.{CounterpartKeepsType, IsTyped, KeepsTypes, OrderKeepsTypes, StandFor, ends_joined, ends_of, ends_of_one, joins_nothing}
use Rattle.shape_laws.proofs.BreakLemmas.Circled.{circle_if}
use Rattle.shape_laws.proofs.BreakLemmas.Contexts.{IsSeenBack, circle_seen, seen_back}
use Rattle.shape_laws.proofs.BreakLemmas.Ends.{item_ends, quiet_one}
use Rattle.shape_laws.proofs.BreakLemmas.FractionTypes.{fractions_types}
use Rattle.shape_laws.proofs.BreakLemmas.Marks.{category_left, known_is, word_category}
use Rattle.shape_laws.proofs.BreakLemmas.Normalized.{normalized_read, rounds_state}
use Rattle.shape_laws.proofs.BreakLemmas.Raw.{begun_is_circled, masked_characters, needs, own_is_begun, prepared_view}
use Rattle.shape_laws.proofs.BreakLemmas.Typed.{composition_stands, expanded_stand, head_typed, ordered_stand, stand_both, stand_none, stand_one, stand_same, stand_then, standing_ordered, tail_typed, typed_one}

-- ---- the items of a text

-- an item has the category of its character
abbrev IsOwn : Item → Type 0
IsOwn z = category_of z ≡ category_number (general_category z.number)

-- items are those of a text's characters
record AreOwn (t : Tables) (us : List ℕ) (zs : List Item) : Type 0 where
  ends : item_ends t zs ≡ ends_of (types_of_characters t us)
  typed : All (IsTyped t) zs
  own : All IsOwn zs

own_typed : (k : Normalizer) (z : Item) → KeepsTypes k → IsOwn z → (mark_class z == 0 || joins_nothing (type_of_character k.tables z.number)) ≡ true → IsTyped k.tables z
own_typed k z h e ordered =
    let same : type_of_item k.tables z ≡ type_of_character k.tables z.number = ap (joining_type k.tables z.number) e in
    record { own = same; ordered = ap (λ y. mark_class z == 0 || joins_nothing y) same ∙ ordered }

one_more : (t : Tables) (u : ℕ) (us : List ℕ) (z : Item) (zs : List Item) → type_of_item t z ≡ type_of_character t u → IsTyped t z → IsOwn z → AreOwn t us zs → AreOwn t (u ∷ us) (z ∷ zs)
one_more t u us z zs e typed own p = record {
  ends = ap (λ y. ends_joined (ends_of_one y) (item_ends t zs)) e ∙ ap (ends_joined (ends_of_one (type_of_character t u))) p.ends;
  typed = All-cons (IsTyped t) z zs typed p.typed;
  own = All-cons IsOwn z zs own p.own;
}

prepared_own : (t : Tables) (b : Bool) (x : Item) → IsOwn (without_continuation (prepared_item t b x))
prepared_own t b x = category_left (property_word_of b x.number) ∙ word_category b x.number

prepared_text : (k : Normalizer) (before : Option Before) (xs : List Item) → KeepsTypes k → AreOwn k.tables (characters xs) (map without_continuation (items_prepared k.tables before xs))
prepared_text k before [] h = record { ends = refl; typed = All-nil (IsTyped k.tables); own = All-nil IsOwn }
prepared_text k before (x ∷ xs) h =
    let t = k.tables in
    let z = without_continuation (prepared_item t (continues t before x.number) x) in
    let own : IsOwn z = prepared_own t (continues t before x.number) x in
    one_more t x.number (characters xs) z (map without_continuation (items_prepared t (Some (next_before t before x.number)) xs)) (ap (joining_type t x.number) own)
    (own_typed k z h own (standing_ordered k x.number (is_mark z) (joins_nothing (type_of_character t x.number)) (h.ordered x.number))) own (prepared_text k (Some (next_before t before x.number)) xs h)

circle_own : (t : Tables) (x : Item) → IsOwn (without_continuation (circle_like t x))
circle_own t x = ap (λ w. bit_and w 0x1F) (continuation_leaves DOTTED_CIRCLE) ∙ low_bits_are_the_category DOTTED_CIRCLE

circled_text : (k : Normalizer) (x : Item) (us : List ℕ) (zs : List Item) → KeepsTypes k → AreOwn k.tables us zs → AreOwn k.tables (DOTTED_CIRCLE ∷ us) (without_continuation (circle_like k.tables x) ∷ zs)
circled_text k x us zs h p =
    let t = k.tables in
    let z = without_continuation (circle_like t x) in
    one_more t DOTTED_CIRCLE us z zs (ap (joining_type t DOTTED_CIRCLE) (circle_own t x))
    (own_typed k z h (circle_own t x) (standing_ordered k DOTTED_CIRCLE (is_mark z) (joins_nothing (type_of_character t DOTTED_CIRCLE)) (h.ordered DOTTED_CIRCLE))) (circle_own t x) p

-- ---- mirrored characters and vertical forms

standing_stands : (k : Normalizer) (v : ℕ) (z : Item) → CounterpartKeepsType k.tables z.number (Some v) → IsTyped k.tables z → IsOwn z → StandFor k.tables (z ∷ []) (record z { number = v } ∷ [])
standing_stands k v z c p own =
    let t = k.tables in
    let same : type_of_item t (record z { number = v }) ≡ type_of_item t z = ap (joining_type t v) own ∙ c.0 ∙ sym p.own in
    stand_one t z (record z { number = v }) same (record { own = same ∙ p.own ∙ sym c.1; ordered = ap (λ y. mark_class z == 0 || joins_nothing y) same ∙ p.ordered })

mirrored_stands : (k : Normalizer) (font : FaceParts) (mask : ℕ) (z : Item) → KeepsTypes k → IsTyped k.tables z → IsOwn z → StandFor k.tables (z ∷ []) (mirrored_item k.tables font mask z ∷ [])
mirrored_stands k font mask z h p own = by_image (mirror_image k.tables font z.number) refl
  where
    by_image : (o : Option ℕ) → mirror_image k.tables font z.number ≡ o → StandFor k.tables (z ∷ []) (mirrored_or mask z o ∷ [])
    by_image None e = stand_one k.tables z (mirrored_or mask z None) refl (record { own = p.own; ordered = p.ordered })
    by_image (Some v) e = standing_stands k v z (subst (CounterpartKeepsType k.tables z.number) (known_is (scalar z.number) font (counterpart_in k.tables.mirrored z.number) v e) (h.mirrored z.number)) p own

upright_stands : (k : Normalizer) (font : FaceParts) (z : Item) → KeepsTypes k → IsTyped k.tables z → IsOwn z → StandFor k.tables (z ∷ []) (with_vertical_form k.tables font z ∷ [])
upright_stands k font z h p own = by_form (vertical_form k.tables font z.number) refl
  where
    by_form : (o : Option ℕ) → vertical_form k.tables font z.number ≡ o → StandFor k.tables (z ∷ []) (upright_or z o ∷ [])
    by_form None e = stand_same k.tables (z ∷ []) (typed_one k.tables z p)
    by_form (Some v) e = standing_stands k v z (subst (CounterpartKeepsType k.tables z.number) (known_is (scalar z.number) font (counterpart_in k.tables.vertical z.number) v e) (h.vertical z.number)) p own

each_stands : (t : Tables) (f : Item → Item) (zs : List Item) → ((z : Item) → IsTyped t z → IsOwn z → StandFor t (z ∷ []) (f z ∷ [])) → All (IsTyped t) zs → All IsOwn zs → StandFor t zs (map f zs)
each_stands t f [] h p own = stand_none t
each_stands t f (z ∷ zs) h p own = stand_both t (z ∷ []) (f z ∷ []) zs (map f zs) (h z (head_typed t z zs p) (All-head IsOwn z zs own)) (each_stands t f zs h (tail_typed t z zs p) (All-tail IsOwn z zs own))

rotated_stand : (k : Normalizer) (font : FaceParts) (d : Direction) (mask : ℕ) (has_vert : Bool) (v : View) → KeepsTypes k → (is_backward d && is_vertical d) ≡ false → All (IsTyped k.tables) v.items → All IsOwn v.items
    → StandFor k.tables v.items (with_rotated_characters k.tables font d mask has_vert v).view.items
rotated_stand k font d mask has_vert v h one p own = by_two (is_backward d) (is_vertical d) one
  where
    f : Item → Item
    f = mirrored_item k.tables font mask

    g : Item → Item
    g = with_vertical_form k.tables font

    by_wish : (b : Bool) → StandFor k.tables v.items (mapped_where b g v).view.items
    by_wish true = each_stands k.tables g v.items (λ z. upright_stands k font z h) p own
    by_wish false = stand_same k.tables v.items p

    by_two : (a b : Bool) → (a && b) ≡ false → StandFor k.tables v.items (mapped_where (b && not has_vert) g (mapped_where a f v).view).view.items
    by_two true true e = cc
    by_two true false e = each_stands k.tables f v.items (λ z. mirrored_stands k font mask z h) p own
    by_two false b e = by_wish (b && not has_vert)

-- ---- a text before its shaper sets masks

rounds_stand : (b : Bool) (k : Normalizer) (s : BufferState) → KeepsTypes k → OrderKeepsTypes k.tables k.reorders → All (IsTyped k.tables) s.view.items → StandFor k.tables s.view.items (rounds_state b k s).view.items
rounds_stand b k s h keeps p =
    let t = k.tables in
    let one = expanded_stand k s.view.items h p in
    let xs = (expanded_list k s.view.items).items in
    let two = ordered_stand b k xs keeps one.typed in
    let ys = (ordering_if b k xs).items in
    let three = composition_stands (b && is_composing k.mode) k ys h two.typed in
    stand_then t s.view.items xs (rounds_state b k s).view.items one (stand_then t xs ys (rounds_state b k s).view.items two three)

-- a text with the masks of fractions, where they are wanted
fractions_same : (p : Shaping) (s : BufferState) → types_of_items p.tables (fractions_state p s).view.items ≡ types_of_items p.tables s.view.items
fractions_same p s = by_wish p.choices.has_frac
  where
    by_wish : (b : Bool) → types_of_items p.tables (if b then state_after (with_fractions (fraction_masks p.map) s.view) s else s).view.items ≡ types_of_items p.tables s.view.items
    by_wish true = fractions_types p.tables (fraction_masks p.map) s.view
    by_wish false = refl

-- before its shaper sets masks a text has the letters at its ends that it had before it was mirrored
unmasked_ends : (q : Shaping) (s : BufferState) (d : CharacterReads q s) → KeepsTypes (normalizer q) → OrderKeepsTypes q.tables q.rules.reorders → (is_backward q.direction && is_vertical q.direction) ≡ false
    → All (IsTyped q.tables) (own_state q s d).view.items → All IsOwn (own_state q s d).view.items → item_ends q.tables (unmasked_state q s d).view.items ≡ item_ends q.tables (own_state q s d).view.items
unmasked_ends q s d h keeps one p own =
    let k = normalizer q in
    let s1 = own_state q s d in
    let s2 = turned_state q s1 in
    let turned = rotated_stand k q.font q.direction (mask_at_one (codes "rtlm") q.map) q.choices.has_vert s1.view h one p own in
    let b = has_later_mark s2.view.items in
    let normal = rounds_stand b k s2 h keeps turned.typed in
    let is : state_after d.normal s2 ≡ rounds_state b k s2 = normalized_read k s2 d.normal d.normal_is in
    ap ends_of (fractions_same q (state_after d.normal s2)) ∙ ap (λ (x : BufferState). item_ends q.tables x.view.items) is ∙ normal.ends ∙ turned.ends

-- ---- two texts

-- the items of a text after the first pipeline stage: those of its characters, or those after a circle, where no context is
-- before the text
AreBegunOwn : Tables → List ℕ → List ℕ → List Item → Type 0
AreBegunOwn t pre us zs = AreOwn t us zs ⊎ ((pre ≡ []) × AreOwn t (DOTTED_CIRCLE ∷ us) zs)

no_context : (us : List ℕ) → (length us == 0) ≡ true → us ≡ []
no_context [] e = refl
no_context (u ∷ us) e = let none : length (u ∷ us) ≡ 0 = eqb-true (length (u ∷ us)) 0 e in absurd (omega (arith, none))

needs_none : (flags : BufferFlags) (context : List ℕ) (font : FaceParts) (xs : List Item) → needs_circle flags context font xs ≡ true → context ≡ []
needs_none flags context font xs e =
    let all = and_parts (flags_want_circle flags && length context == 0 && begins_with_mark xs) (is_some (nominal_glyph DOTTED_CIRCLE font)) e in
    let two = and_parts (flags_want_circle flags && length context == 0) (begins_with_mark xs) all.0 in
    no_context context (and_parts (flags_want_circle flags) (length context == 0) two.0).1

circled_own : (k : Normalizer) (b : Bool) (flags : BufferFlags) (context : List ℕ) (font : FaceParts) (xs : List Item) (v : View) → KeepsTypes k → v.items ≡ items_prepared k.tables None xs → needs_circle flags context font (items_prepared k.tables None xs) ≡ b
    → AreBegunOwn k.tables context (characters xs) (map without_continuation (circle_if b k.tables v).view.items)
unfolding AreBegunOwn
circled_own k false flags context font xs v h e need = inl (subst (λ zs. AreOwn k.tables (characters xs) (map without_continuation zs)) (sym e) (prepared_text k None xs h))
circled_own k true flags context font [] v h e need = inl (subst (λ zs. AreOwn k.tables [] (map without_continuation (circled_items k.tables zs))) (sym e) (prepared_text k None [] h))
circled_own k true flags context font (x ∷ xs) v h e need =
    inr (
      needs_none flags context font (items_prepared k.tables None (x ∷ xs)) need,
      subst (λ zs. AreOwn k.tables (DOTTED_CIRCLE ∷ characters (x ∷ xs)) (map without_continuation (circled_items k.tables zs))) (sym e)
          (circled_text k (prepared_item k.tables (continues k.tables None x.number) x) (characters (x ∷ xs)) (map without_continuation (items_prepared k.tables None (x ∷ xs))) h (prepared_text k None (x ∷ xs) h)),
    )

begun_own : (q : Shaping) (s : BufferState) (d : CharacterReads q s) → KeepsTypes (normalizer q) → PreprocessesNothing q.rules → IsNativeLine q.settings.script s.view.direction
    → AreBegunOwn q.tables q.settings.pre_context (characters s.view.items) (own_state q s d).view.items
begun_own q s d h nothing native =
    let xs = map (item_masked q.map.global_mask) s.view.items in
    let all = circled_own (normalizer q) (needs q s) q.settings.flags q.settings.pre_context q.font xs (prepared_view q s) h refl refl in
    subst (λ us. AreBegunOwn q.tables q.settings.pre_context us (own_state q s d).view.items) (masked_characters q.map.global_mask s.view.items)
    (subst (AreBegunOwn q.tables q.settings.pre_context (characters xs)) (sym (ap (λ (x : BufferState). x.view.items) (own_is_begun q s d nothing) ∙ begun_is_circled q s d.begun native d.begun_is)) all)

-- an earlier text is seen by the letter before it as its characters are
pub early_seen : (q : Shaping) (s : BufferState) (d : CharacterReads q s) → KeepsTypes (normalizer q) → OrderKeepsTypes q.tables q.rules.reorders → (is_backward q.direction && is_vertical q.direction) ≡ false → PreprocessesNothing q.rules
    → IsNativeLine q.settings.script s.view.direction → IsSeenBack q.tables q.settings.pre_context (characters s.view.items) (unmasked_state q s d).view.items
unfolding AreBegunOwn
early_seen q s d h keeps one nothing native =
    let t = q.tables in
    let us = characters s.view.items in
    let pre = q.settings.pre_context in
    elim (begun_own q s d h nothing native) [
      | inl plain ↦ seen_back t pre us (unmasked_state q s d).view.items (unmasked_ends q s d h keeps one plain.typed plain.own ∙ plain.ends)
      | inr circled ↦
          let same = unmasked_ends q s d h keeps one circled.1.typed circled.1.own ∙ circled.1.ends in
          circle_seen t (is_letter (type_of_character t DOTTED_CIRCLE)) pre us (unmasked_state q s d).view.items circled.0 (same ∙ ap (λ e. ends_joined e (ends_of (types_of_characters t us))) (quiet_one (type_of_character t DOTTED_CIRCLE) h.circle))
    ]

-- a later text, which gets no circle, has the letters of its characters at its ends
pub late_ends : (q : Shaping) (s : BufferState) (d : CharacterReads q s) → KeepsTypes (normalizer q) → OrderKeepsTypes q.tables q.rules.reorders → (is_backward q.direction && is_vertical q.direction) ≡ false → PreprocessesNothing q.rules
    → IsNativeLine q.settings.script s.view.direction → flags_want_circle q.settings.flags ≡ false → item_ends q.tables (unmasked_state q s d).view.items ≡ ends_of (types_of_characters q.tables (characters s.view.items))
late_ends q s d h keeps one nothing native none =
    let xs = map (item_masked q.map.global_mask) s.view.items in
    let same : (own_state q s d).view.items ≡ map without_continuation (items_prepared q.tables None xs) =
    ap (λ (x : BufferState). x.view.items) (own_is_begun q s d nothing) ∙ begun_is_circled q s d.begun native d.begun_is
    ∙ ap (λ b. map without_continuation (circle_if b q.tables (prepared_view q s)).view.items) (no_need (items_prepared q.tables None xs)) in
    let plain : AreOwn q.tables (characters xs) (own_state q s d).view.items = subst (AreOwn q.tables (characters xs)) (sym same) (prepared_text (normalizer q) None xs h) in
    unmasked_ends q s d h keeps one plain.typed plain.own ∙ plain.ends ∙ ap (λ us. ends_of (types_of_characters q.tables us)) (masked_characters q.map.global_mask s.view.items)
  where
    no_need : (zs : List Item) → needs_circle q.settings.flags q.settings.pre_context q.font zs ≡ false
    no_need zs = rw none refl

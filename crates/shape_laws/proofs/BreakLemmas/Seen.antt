-- The items of a text that is broken into two, from the first pipeline stage to normalizing.
use Rattle.std.proofs.Common.{ℕ, suc, ◌≡◌, ◌<◌, ◌||◌, ◌&&◌, ◌⊎◌, inl, inr, not, Bool, true, false, List, [], ◌∷◌, ◌++◌, length, map, Option, None, Some, Ok, arith, refl, sym, ap, subst, ◌∙◌}
use Rattle.std.specs.List.{list_any}
use lib.Utf8.{scalar}
use Rattle.std.proofs.lemmas.List.{length-map}
use Rattle.buffer_common.specs.Direction.{is_backward, is_vertical}
use Rattle.buffer_common.specs.declared.constants.BufferFlags.{BufferFlags}
use Rattle.buffer_common.specs.declared.direction.Direction.{Direction}
use Rattle.buffer_glyphs.specs.Items.{Item, item_masked}
use Rattle.buffer_unicode_tables.specs.Tables.{Tables, counterpart_in}
use Rattle.buffer_core.specs.Readings.{BufferState, Read, View, state_after}
use Rattle.buffer_properties.specs.Characters.{is_mark}
use Rattle.buffer_properties.specs.NormalizedList.{has_later_mark}
use Rattle.buffer_properties.specs.Normalizer.{Normalizer}
use Rattle.buffer_properties.specs.Properties.{is_mark_character}
use Rattle.layout_face.specs.declared.parts.FaceParts.{FaceParts}
use Rattle.shape_text.specs.declared.graphemes.Before.{Before}
use Rattle.shape_text.specs.Circle.{DOTTED_CIRCLE, circled_items, needs_circle}
use Rattle.shape_text.specs.Graphemes.{continues}
use Rattle.shape_text.specs.NativeOrder.{without_continuation}
use Rattle.shape_text.specs.Properties.{items_prepared, next_before, prepared_item}
use Rattle.shape_text.specs.Rotation.{mapped_where, mirror_image, mirrored_item, mirrored_or, upright_or, vertical_form, with_rotated_characters, with_vertical_form}
use Rattle.shape_pipeline.specs.Characters.{normalizer, text_begun}
use Rattle.shape_pipeline.specs.Shaping.{Shaping}
use Rattle.shape_laws.specs.Breaks.Characters.{CounterpartKeepsMarks, KeepsMarks, OrderEndsUnjoined, characters, ends_with_joiner, last_joined}
use Rattle.shape_laws.specs.Breaks.Normalizing.{AreNormalizedApart, is_joiner}
use Rattle.shape_laws.specs.Breaks.Texts.{IsNativeLine}
use Rattle.shape_laws.proofs.BreakLemmas.BegunTexts.{BeginsCluster}
use Rattle.shape_laws.proofs.BreakLemmas.Circled.{circle_if}
use Rattle.shape_laws.proofs.BreakLemmas.Marks.{AreOf, circled_are, known_is, later_both, none_later, prepared_are}
use Rattle.shape_laws.proofs.BreakLemmas.Raw.{begun_is_circled, extends_not, first_marked, marked, masked_characters, needs, needs_mark, prepared_view}
use Rattle.shape_laws.proofs.BreakLemmas.Unjoined.{AreLow, IsLow, IsPlainly, begins_alone, expanded_begins, ordered_ends}

-- ---- what stages keep of a list

-- a list is like another one in its marks and joiners
pub record IsKept (zs ws : List Item) : Type 0 where
  pub low : AreLow zs → AreLow ws
  pub last : last_joined false zs ≡ false → last_joined false ws ≡ false
  pub later : has_later_mark ws ≡ has_later_mark zs
  pub marks : list_any is_mark ws ≡ list_any is_mark zs
  pub many : length ws ≡ length zs

pub kept_same : (zs : List Item) → IsKept zs zs
kept_same zs = record { low = λ h. h; last = λ e. e; later = refl; marks = refl; many = refl }

kept_then : (xs ys zs : List Item) → IsKept xs ys → IsKept ys zs → IsKept xs zs
kept_then xs ys zs p q = record { low = λ h. q.low (p.low h); last = λ e. q.last (p.last e); later = q.later ∙ p.later; marks = q.marks ∙ p.marks; many = q.many ∙ p.many }

-- the first of some items is no mark, nor is its character
abbrev pub FirstPlainly : List Item → Type 0
FirstPlainly [] = ⊥
FirstPlainly (z ∷ zs) = IsPlainly z

-- ---- mirrored characters and vertical forms

-- an item that another one stands for
record TurnsTo (z w : Item) : Type 0 where
  mark : is_mark w ≡ is_mark z
  low : IsLow z → IsLow w
  joins : (is_joiner w ≡ false) ⊎ (is_joiner w ≡ is_joiner z)
  plain : is_mark_character z.number ≡ false → is_mark_character w.number ≡ false

abbrev AreTurned : List Item → List Item → Type 0
AreTurned [] [] = Unit {0}
AreTurned [] (w ∷ ws) = ⊥
AreTurned (z ∷ zs) [] = ⊥
AreTurned (z ∷ zs) (w ∷ ws) = TurnsTo z w × AreTurned zs ws

standing_turns : (v : ℕ) (z : Item) → CounterpartKeepsMarks z.number (Some v) → TurnsTo z (record z { number = v })
standing_turns v z c = record { mark = refl; low = λ h joined. let off = c.1 in cc; joins = inl c.1; plain = c.0 }

mirrored_turns : (k : Normalizer) (font : FaceParts) (mask : ℕ) (z : Item) → KeepsMarks k → TurnsTo z (mirrored_item k.tables font mask z)
mirrored_turns k font mask z h = by_image (mirror_image k.tables font z.number) refl
  where
    by_image : (o : Option ℕ) → mirror_image k.tables font z.number ≡ o → TurnsTo z (mirrored_or mask z o)
    by_image None e = record { mark = refl; low = λ l. l; joins = inr refl; plain = λ p. p }
    by_image (Some v) e = standing_turns v z (subst (CounterpartKeepsMarks z.number) (known_is (scalar z.number) font (counterpart_in k.tables.mirrored z.number) v e) (h.mirrored z.number))

upright_turns : (k : Normalizer) (font : FaceParts) (z : Item) → KeepsMarks k → TurnsTo z (with_vertical_form k.tables font z)
upright_turns k font z h = by_form (vertical_form k.tables font z.number) refl
  where
    by_form : (o : Option ℕ) → vertical_form k.tables font z.number ≡ o → TurnsTo z (upright_or z o)
    by_form None e = record { mark = refl; low = λ l. l; joins = inr refl; plain = λ p. p }
    by_form (Some v) e = standing_turns v z (subst (CounterpartKeepsMarks z.number) (known_is (scalar z.number) font (counterpart_in k.tables.vertical z.number) v e) (h.vertical z.number))

each_turned : (f : Item → Item) (zs : List Item) → ((z : Item) → TurnsTo z (f z)) → AreTurned zs (map f zs)
each_turned f [] h = tt
each_turned f (z ∷ zs) h = (h z, each_turned f zs h)

turned_low : (zs ws : List Item) → AreTurned zs ws → AreLow zs → AreLow ws
turned_low [] [] p h = tt
turned_low [] (w ∷ ws) p h = absurd p
turned_low (z ∷ zs) [] p h = absurd p
turned_low (z ∷ zs) (w ∷ ws) p h = (p.0.low h.0, turned_low zs ws p.1 h.1)

turned_last : (before d : Bool) (zs ws : List Item) → AreTurned zs ws → (d ≡ false) ⊎ (before ≡ true) → last_joined before zs ≡ false → last_joined d ws ≡ false
turned_last before d [] [] p (inl e) f = e
turned_last before d [] [] p (inr e) f = cc
turned_last before d [] (w ∷ ws) p e f = absurd p
turned_last before d (z ∷ zs) [] p e f = absurd p
turned_last before d (z ∷ zs) (w ∷ ws) p e f = turned_last (is_joiner z) (is_joiner w) zs ws p.1 (either p.0.joins (is_joiner z) refl) f
  where
    either : (is_joiner w ≡ false) ⊎ (is_joiner w ≡ is_joiner z) → (b : Bool) → is_joiner z ≡ b → (is_joiner w ≡ false) ⊎ (is_joiner z ≡ true)
    either (inl off) b g = inl off
    either (inr same) true g = inr g
    either (inr same) false g = inl (same ∙ g)

turned_marks : (zs ws : List Item) → AreTurned zs ws → list_any is_mark ws ≡ list_any is_mark zs
turned_marks [] [] p = refl
turned_marks [] (w ∷ ws) p = absurd p
turned_marks (z ∷ zs) [] p = absurd p
turned_marks (z ∷ zs) (w ∷ ws) p = rw (p.0.mark, turned_marks zs ws p.1) refl

turned_later : (zs ws : List Item) → AreTurned zs ws → has_later_mark ws ≡ has_later_mark zs
turned_later [] [] p = refl
turned_later [] (w ∷ ws) p = absurd p
turned_later (z ∷ zs) [] p = absurd p
turned_later (z ∷ zs) (w ∷ ws) p = turned_marks zs ws p.1

turned_many : (zs ws : List Item) → AreTurned zs ws → length ws ≡ length zs
turned_many [] [] p = refl
turned_many [] (w ∷ ws) p = absurd p
turned_many (z ∷ zs) [] p = absurd p
turned_many (z ∷ zs) (w ∷ ws) p = ap suc (turned_many zs ws p.1)

turned_first : (zs ws : List Item) → AreTurned zs ws → FirstPlainly zs → FirstPlainly ws
turned_first [] ws p h = absurd h
turned_first (z ∷ zs) [] p h = absurd p
turned_first (z ∷ zs) (w ∷ ws) p h = (p.0.mark ∙ h.0, p.0.plain h.1)

are_kept : (zs ws : List Item) → AreTurned zs ws → IsKept zs ws
are_kept zs ws p = record { low = turned_low zs ws p; last = turned_last false false zs ws p (inl refl); later = turned_later zs ws p; marks = turned_marks zs ws p; many = turned_many zs ws p }

-- a list that is kept, with its first item
pub record IsKeptFirst (zs ws : List Item) : Type 0 where
  pub kept : IsKept zs ws
  pub first : FirstPlainly zs → FirstPlainly ws

where_kept : (b : Bool) (f : Item → Item) (v : View) → ((z : Item) → TurnsTo z (f z)) → IsKeptFirst v.items (mapped_where b f v).view.items
where_kept true f v h = let p = each_turned f v.items h in record { kept = are_kept v.items (map f v.items) p; first = turned_first v.items (map f v.items) p }
where_kept false f v h = record { kept = kept_same v.items; first = λ p. p }

pub rotated_kept : (k : Normalizer) (font : FaceParts) (d : Direction) (mask : ℕ) (has_vert : Bool) (v : View) → KeepsMarks k → IsKeptFirst v.items (with_rotated_characters k.tables font d mask has_vert v).view.items
rotated_kept k font d mask has_vert v h =
    let m = mapped_where (is_backward d) (mirrored_item k.tables font mask) v in
    let one = where_kept (is_backward d) (mirrored_item k.tables font mask) v (λ z. mirrored_turns k font mask z h) in
    let two = where_kept (is_vertical d && not has_vert) (with_vertical_form k.tables font) m.view (λ z. upright_turns k font z h) in
    record { kept = kept_then v.items m.view.items (with_rotated_characters k.tables font d mask has_vert v).view.items one.kept two.kept; first = λ p. two.first (one.first p) }

-- ---- the items of a text after the first pipeline stage

numbers_prepared : (t : Tables) (before : Option Before) (xs : List Item) → characters (map without_continuation (items_prepared t before xs)) ≡ characters xs
numbers_prepared t before [] = refl
numbers_prepared t before (x ∷ xs) = ap (λ us. x.number ∷ us) (numbers_prepared t (Some (next_before t before x.number)) xs)

-- items are of a text's characters, with their numbers
pub record AreSeen (us : List ℕ) (zs : List Item) : Type 0 where
  pub of : AreOf us zs
  pub numbers : characters zs ≡ us

pub prepared_seen : (k : Normalizer) (mask : ℕ) (xs : List Item) → KeepsMarks k → AreSeen (characters xs) (map without_continuation (items_prepared k.tables None (map (item_masked mask) xs)))
prepared_seen k mask xs h = record {
  of = subst (λ us. AreOf us (map without_continuation (items_prepared k.tables None (map (item_masked mask) xs)))) (masked_characters mask xs) (prepared_are k None (map (item_masked mask) xs) h);
  numbers = numbers_prepared k.tables None (map (item_masked mask) xs) ∙ masked_characters mask xs;
}

-- items are of a text's characters, or of these after a circle, where one of them is a mark
abbrev pub IsSeenText : List ℕ → List Item → Type 0
IsSeenText us zs = AreSeen us zs ⊎ (AreSeen (DOTTED_CIRCLE ∷ us) zs × (list_any is_mark_character us ≡ true))

seen_text : (k : Normalizer) (b : Bool) (flags : BufferFlags) (context : List ℕ) (font : FaceParts) (xs : List Item) (v : View) → KeepsMarks k → v.items ≡ items_prepared k.tables None xs → needs_circle flags context font (items_prepared k.tables None xs) ≡ b
    → IsSeenText (characters xs) (map without_continuation (circle_if b k.tables v).view.items)
seen_text k false flags context font xs v h e need = inl (subst (λ zs. AreSeen (characters xs) (map without_continuation zs)) (sym e) (record { of = prepared_are k None xs h; numbers = numbers_prepared k.tables None xs }))
seen_text k true flags context font [] v h e need = let mark = needs_mark flags context font [] need in cc
seen_text k true flags context font (x ∷ xs) v h e need =
    let mark = needs_mark flags context font (items_prepared k.tables None (x ∷ xs)) need in
    let all = prepared_are k None (x ∷ xs) h in
    inr (
      subst (λ zs. AreSeen (DOTTED_CIRCLE ∷ characters (x ∷ xs)) (map without_continuation (circled_items k.tables zs))) (sym e) (record {
        of = circled_are k (prepared_item k.tables (continues k.tables None x.number) x) (characters (x ∷ xs)) (map without_continuation (items_prepared k.tables None (x ∷ xs))) all;
        numbers = ap (λ us. DOTTED_CIRCLE ∷ us) (numbers_prepared k.tables None (x ∷ xs));
      }),
      first_marked (characters xs) x.number (sym (marked k (continues k.tables None x.number) x) ∙ mark),
    )

pub begun_seen : (q : Shaping) (s : BufferState) (r : Read) → KeepsMarks (normalizer q) → IsNativeLine q.settings.script s.view.direction → text_begun q s.view ≡ Ok r → IsSeenText (characters s.view.items) (state_after r s).view.items
begun_seen q s r h native is =
    let xs = map (item_masked q.map.global_mask) s.view.items in
    let all = seen_text (normalizer q) (needs q s) q.settings.flags q.settings.pre_context q.font xs (prepared_view q s) h refl refl in
    subst (λ us. IsSeenText us (state_after r s).view.items) (masked_characters q.map.global_mask s.view.items) (subst (IsSeenText (characters xs)) (sym (begun_is_circled q s r native is)) all)

-- a text has items after the first pipeline stage
pub seen_some : (xs zs : List Item) → 0 < length xs → IsSeenText (characters xs) zs → 0 < length zs
seen_some xs [] some (inl plain) = let none = plain.numbers in let many = length-map xs (λ (x : Item). x.number) in let same : length (characters xs) ≡ 0 = ap length (sym none) in absurd (omega (arith, many, same, some))
seen_some xs [] some (inr circled) = absurd circled.0.of
seen_some xs (z ∷ zs) some h = omega arith

pub begun_first : (k : Normalizer) (mask : ℕ) (ys : List Item) → KeepsMarks k → 0 < length ys → BeginsCluster ys → FirstPlainly (map without_continuation (items_prepared k.tables None (map (item_masked mask) ys)))
begun_first k mask [] h some begins = absurd (omega (arith, some))
begun_first k mask (y ∷ ys) h some begins =
    let p = (prepared_are k None (map (item_masked mask) (y ∷ ys)) h).0 in
    let none = extends_not y.number begins in
    (p.mark ∙ none, p.plain none)

-- ---- two texts by their marks

-- both texts have a mark after their first item, or neither has one
abbrev AreLike : List Item → List Item → Type 0
AreLike xs ys = ((has_later_mark xs ≡ true) × (has_later_mark ys ≡ true)) ⊎ ((list_any is_mark xs ≡ false) × (list_any is_mark ys ≡ false))

like_both : (xs ys : List Item) → 0 < length xs → AreLike xs ys → (has_later_mark xs ≡ has_later_mark (xs ++ ys)) × (has_later_mark ys ≡ has_later_mark (xs ++ ys))
like_both xs ys some (inl both) = let all : has_later_mark (xs ++ ys) ≡ true = later_both xs ys some ∙ ap (λ b. b || list_any is_mark ys) both.0 in (both.0 ∙ sym all, both.1 ∙ sym all)
like_both xs ys some (inr neither) =
    let early = none_later xs neither.0 in
    let all : has_later_mark (xs ++ ys) ≡ false = later_both xs ys some ∙ ap (λ b. b || list_any is_mark ys) early ∙ neither.1 in
    (early ∙ sym all, none_later ys neither.1 ∙ sym all)

-- two texts are normalized each by itself
like_apart : (k : Normalizer) (xs : List Item) (y : Item) (ys : List Item) → KeepsMarks k → OrderEndsUnjoined k.reorders → AreLike xs (y ∷ ys) → 0 < length xs → AreLow xs → last_joined false xs ≡ false → IsPlainly y → AreNormalizedApart k xs (y ∷ ys)
like_apart k xs y ys h ends like some low last plainly =
    let both = like_both xs (y ∷ ys) some like in
    record { begins = begins_alone k y ys h plainly; expanded = expanded_begins k y ys h plainly; early_marks = both.0; late_marks = both.1; ends = ordered_ends (has_later_mark (xs ++ y ∷ ys)) k xs h ends low last }

-- ---- a text at normalizing

-- a text at normalizing: it ends with no joiner, U+034F has class 0, and there are items; it has later marks where its
-- characters have some that stay later, and none where they have none
pub record IsReady (marked unmarked : Type 0) (us : List ℕ) (zs : List Item) : Type 0 where
  pub low : AreLow zs
  pub last : ends_with_joiner false us ≡ false → last_joined false zs ≡ false
  pub some : 0 < length zs
  pub later : marked → has_later_mark zs ≡ true
  pub none : unmarked → list_any is_mark zs ≡ false

pub ready_kept : (marked unmarked : Type 0) (us : List ℕ) (zs ws : List Item) → IsReady marked unmarked us zs → IsKept zs ws → IsReady marked unmarked us ws
ready_kept marked unmarked us zs ws p k = record {
  low = k.low p.low;
  last = λ e. k.last (p.last e);
  some = let some = p.some in let many = k.many in omega (arith, some, many);
  later = λ h. k.later ∙ p.later h;
  none = λ h. k.marks ∙ p.none h;
}

-- two texts at normalizing are normalized each by itself
pub ready_apart : (k : Normalizer) (early_marked early_unmarked late_marked late_unmarked : Type 0) (us vs : List ℕ) (zs ws : List Item) → KeepsMarks k → OrderEndsUnjoined k.reorders
    → (early_marked × late_marked) ⊎ (early_unmarked × late_unmarked) → ends_with_joiner false us ≡ false → IsReady early_marked early_unmarked us zs → IsReady late_marked late_unmarked vs ws → FirstPlainly ws → AreNormalizedApart k zs ws
ready_apart k early_marked early_unmarked late_marked late_unmarked us vs zs [] h ends marks last early late first = absurd first
ready_apart k early_marked early_unmarked late_marked late_unmarked us vs zs (w ∷ ws) h ends marks last early late first = like_apart k zs w ws h ends (like marks) early.some early.low (early.last last) first
  where
    like : (early_marked × late_marked) ⊎ (early_unmarked × late_unmarked) → AreLike zs (w ∷ ws)
    like (inl both) = inl (early.later both.0, late.later both.1)
    like (inr neither) = inr (early.none neither.0, late.none neither.1)

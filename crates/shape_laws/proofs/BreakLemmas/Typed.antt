-- Normalizing keeps the first letter of a text and the last one.
use Rattle.std.proofs.Common.{ℕ, zero, suc, ◌≡◌, ◌≤◌, ◌+◌, ◌-◌, ◌*◌, ◌/◌, ◌%◌, ◌==◌, ◌||◌, ◌&&◌, inl, inr, nat_le, nat_lt, Bool, true, false, if◌then◌else◌, List, [], ◌∷◌, ◌++◌, length, map, Option, None, Some, is_some, append_assoc, append-nil, arith, refl, sym, ap, ap₂, subst, ◌∙◌}
use Rattle.std.specs.Prelude.{option_map, unwrap_or}
use Rattle.std.specs.List.{All, list_any}
use Rattle.std.specs.Option.{option_and_then, option_map_or}
use Rattle.std.proofs.lemmas.Bool.{cases_Bool, cond-true, cond-false, and_parts}
use Rattle.std.proofs.lemmas.Bool.Decides.{nat_tests}
use Rattle.std.proofs.lemmas.Grind.{common_steps}
use Rattle.std.proofs.lemmas.List.{map-append}
use Rattle.std.proofs.lemmas.List.Elements.{All-append, All-cons, All-head, All-nil, All-tail}
use Rattle.std.proofs.lemmas.List.Sorted.{All-permutation}
use Rattle.std.proofs.lemmas.Nat.{and_mask, and_or_apart}
use Rattle.std.proofs.lemmas.Nat.Bits.{and_high}
use Rattle.std.specs.Int.RustNames.{bit_and, bit_or}
use Rattle.buffer_unicode_tables.specs.ClassOrder.{run_order}
use Rattle.buffer_unicode_tables.specs.Expansion.{with_second_piece}
use Rattle.buffer_unicode_tables.specs.Tables.{Tables, class_of}
use Rattle.buffer_glyphs.specs.Items.{Item}
use Rattle.buffer_glyphs.specs.Rewriting.{Arrangement, eventless_arrangement, in_turn}
use Rattle.buffer_properties.proofs.Kept.{alone_is, mapped_is, preferred_is, space_is_no_mark}
use Rattle.buffer_properties.proofs.Words.{low_bits_are_the_category}
use Rattle.buffer_properties.specs.Characters.{category_of, is_mark, is_mark_number, is_selector, is_space, mark_class, standing_for, unjoined_selector, visible_item, with_category, with_glyph}
use Rattle.buffer_properties.specs.Composing.{becoming, composed_list, composite, composition_from, is_not_blocked, last_class, with_composition}
use Rattle.buffer_properties.specs.Properties.{character_class, is_mark_character, without_bits}
use Rattle.buffer_properties.specs.Expanding.{expanded_group, expanded_groups, expanded_item, expanded_list, expanded_with_marks, is_typed_space, item_expansion, items_for, meets_selector, pending_item, piece_of, selection, selections_after, space_glyph, whole_item, with_found_glyph, with_glyph_of_space, with_own_glyph}
use Rattle.buffer_properties.specs.NormalizedList.{composition_if, ordering_if}
use Rattle.buffer_properties.specs.Normalizer.{Normalizer, has_character, reach_alone, reach_with_marks}
use Rattle.buffer_properties.specs.Ordering.{arranged_run, arranged_runs, joiner_between, joiners_shown, separates_nothing, sorted_run, with_joiners_shown}
use Rattle.buffer_properties.specs.SupportedExpansion.{alone, by_supported, expansion, in_pieces, supported_expansion}
use Rattle.buffer_properties.specs.declared.normal_mode.Reach.{Reach}
use Rattle.buffer_properties.specs.declared.normal_mode.Reach.TheVariants.{Least, Greatest}
use Rattle.buffer_properties.specs.declared.normal_mode.TheConstants.{MAX_COMBINING_MARKS}
use Rattle.script_categories.specs.declared.joining_types.hb_arabic_joining_type_t.TheVariants.{T}
use Rattle.script_joining.specs.Joining.{types_of_items}
use Rattle.script_joining.specs.Types.{JoiningType, joining_type, listed_type, type_of_category, type_of_character, type_of_item}
use Rattle.shape_laws.specs.Breaks.Types.{AreSeenAs, Ends, HalvesKeepType, IsTyped, KeepsTypes, OrderKeepsTypes, StandFor, ends_joined, ends_of, ends_of_one, joins_nothing, type_of_half}
use Rattle.shape_laws.proofs.BreakLemmas.Ends.{AreQuiet, composed_seen, ends_both, is_letter_item, item_ends, items_both, joined_assoc, joined_none, quiet_items, quiet_moved, two_seen}
use Rattle.shape_laws.proofs.BreakLemmas.Unjoined.{no_mark_class, pending, whole_number, whole_props}
use Rattle.buffer_properties.proofs.Sorted.{low_bits_stay, bit_within, category_of_shown as category_shown}
use Rattle.shape_laws.proofs.BreakLemmas.Sorted.{in_class_order}
use Rattle.shape_normalize.proofs.Lemmas.Chain.{items_both as turn_items}

-- ---- lists

pub typed_both : (t : Tables) (xs ys : List Item) → All (IsTyped t) xs → All (IsTyped t) ys → All (IsTyped t) (xs ++ ys)
typed_both t xs ys h k = All-append (IsTyped t) xs ys h k

pub stand_none : (t : Tables) → StandFor t [] []
stand_none t = record { ends = refl; typed = All-nil (IsTyped t) }

pub stand_both : (t : Tables) (xs zs ys ws : List Item) → StandFor t xs zs → StandFor t ys ws → StandFor t (xs ++ ys) (zs ++ ws)
stand_both t xs zs ys ws p q = record {
  ends = items_both t zs ws ∙ ap (λ e. ends_joined e (item_ends t ws)) p.ends ∙ ap (ends_joined (item_ends t xs)) q.ends ∙ sym (items_both t xs ys);
  typed = typed_both t zs ws p.typed q.typed;
}

pub stand_then : (t : Tables) (xs ys zs : List Item) → StandFor t xs ys → StandFor t ys zs → StandFor t xs zs
stand_then t xs ys zs p q = record { ends = q.ends ∙ p.ends; typed = q.typed }

pub stand_same : (t : Tables) (xs : List Item) → All (IsTyped t) xs → StandFor t xs xs
stand_same t xs h = record { ends = refl; typed = h }

one_ends : (t : Tables) (x : Item) → item_ends t (x ∷ []) ≡ ends_of_one (type_of_item t x)
one_ends t x = joined_none (ends_of_one (type_of_item t x))

pub typed_one : (t : Tables) (x : Item) → IsTyped t x → All (IsTyped t) (x ∷ [])
typed_one t x h = All-cons (IsTyped t) x [] h (All-nil (IsTyped t))

-- one item for another of its type
pub stand_one : (t : Tables) (x z : Item) → type_of_item t z ≡ type_of_item t x → IsTyped t z → StandFor t (x ∷ []) (z ∷ [])
stand_one t x z e h = record { ends = ap (λ y. ends_of (y ∷ [])) e; typed = typed_one t z h }

-- ---- the pieces of a character

types : Tables → List ℕ → List JoiningType
types t us = map (type_of_character t) us

abbrev character_ends : Tables → List ℕ → Ends
character_ends t us = ends_of (map (type_of_character t) us)

abbrev Halves : Normalizer → Type 0
Halves k = (u : ℕ) → HalvesKeepType k.tables (type_of_character k.tables u) (k.splits u)

second_ends : (t : Tables) (u a b : ℕ) (us : List ℕ) → AreSeenAs (type_of_character t u) (type_of_character t a) (type_of_half t b) → character_ends t us ≡ ends_of_one (type_of_character t a) → character_ends t (with_second_piece b us) ≡ ends_of_one (type_of_character t u)
second_ends t u a b us h e = by_test (b == 0) h
  where
    by_test : (c : Bool) → AreSeenAs (type_of_character t u) (type_of_character t a) (if c then T else type_of_character t b) → character_ends t (if c then us else us ++ b ∷ []) ≡ ends_of_one (type_of_character t u)
    by_test true k = e ∙ sym (joined_none (ends_of_one (type_of_character t a))) ∙ two_seen (type_of_character t u) (type_of_character t a) T k
    by_test false k =
        ap ends_of (map-append (type_of_character t) us (b ∷ [])) ∙ ends_both (map (type_of_character t) us) (type_of_character t b ∷ []) ∙ ap (λ p. ends_joined p (ends_of (type_of_character t b ∷ []))) e
        ∙ ap (ends_joined (ends_of_one (type_of_character t a))) (joined_none (ends_of_one (type_of_character t b))) ∙ two_seen (type_of_character t u) (type_of_character t a) (type_of_character t b) k

supported_ends : (t : Tables) (has : ℕ → Bool) (expand : ℕ → Option (List ℕ)) (u : ℕ) (o : Option (ℕ × ℕ)) (us : List ℕ) → HalvesKeepType t (type_of_character t u) o → ((a : ℕ) (vs : List ℕ) → expand a ≡ Some vs → character_ends t vs ≡ ends_of_one (type_of_character t a))
    → by_supported has expand o ≡ Some us → character_ends t us ≡ ends_of_one (type_of_character t u)
supported_ends t has expand u None us k h e = absurd (let none : None ≡ Some us = e in cc)
supported_ends t has expand u (Some (a, b)) us k h e =
    elim (cases_Bool (b == 0 || has b)) [
      | inl found ↦
          let at = mapped_is (with_second_piece b) (expand a) us (sym (cond-true _ _ _ found) ∙ e) in
          subst (λ vs. character_ends t vs ≡ ends_of_one (type_of_character t u)) at.1.1 (second_ends t u a b at.0 k (h a at.0 at.1.0))
      | inr lacks ↦ absurd (let none : None ≡ Some us = sym (cond-false _ _ _ lacks) ∙ e in cc)
    ]

alone_ends : (t : Tables) (u : ℕ) → character_ends t (u ∷ []) ≡ ends_of_one (type_of_character t u)
alone_ends t u = joined_none (ends_of_one (type_of_character t u))

deep_ends : (k : Normalizer) (reach : Reach) (has : ℕ → Bool) (depth u : ℕ) (us : List ℕ) → Halves k → supported_expansion reach has k.splits depth u ≡ Some us → character_ends k.tables us ≡ ends_of_one (type_of_character k.tables u)
unfolding supported_expansion
deep_ends k reach has zero u us h e = subst (λ vs. character_ends k.tables vs ≡ ends_of_one (type_of_character k.tables u)) (alone_is has u us e) (alone_ends k.tables u)
deep_ends k reach has (suc depth) u us h e =
    elim (preferred_is reach (alone has u) (by_supported has (supported_expansion reach has k.splits depth) (k.splits u)) us e) [
      | inl whole ↦ subst (λ vs. character_ends k.tables vs ≡ ends_of_one (type_of_character k.tables u)) (alone_is has u us whole) (alone_ends k.tables u)
      | inr pieces ↦ supported_ends k.tables has (supported_expansion reach has k.splits depth) u (k.splits u) us (h u) (λ a vs f. deep_ends k reach has depth a vs h f) pieces
    ]

pieces_ends : (k : Normalizer) (reach : Reach) (has : ℕ → Bool) (u : ℕ) (us : List ℕ) → Halves k → in_pieces reach has k.splits u ≡ Some us → character_ends k.tables us ≡ ends_of_one (type_of_character k.tables u)
unfolding in_pieces
pieces_ends k reach has u us h e = supported_ends k.tables has (supported_expansion reach has k.splits 8) u (k.splits u) us (h u) (λ a vs f. deep_ends k reach has 8 a vs h f) e

found_ends : (k : Normalizer) (reach : Reach) (has : ℕ → Bool) (u : ℕ) (us : List ℕ) → Halves k → expansion reach has k.splits u ≡ Some us → character_ends k.tables us ≡ ends_of_one (type_of_character k.tables u)
found_ends k Greatest has u us h e = pieces_ends k Greatest has u us h e
found_ends k Least has u us h e = by_test (has u) e
  where
    by_test : (b : Bool) → (if b then None else in_pieces Least has k.splits u) ≡ Some us → character_ends k.tables us ≡ ends_of_one (type_of_character k.tables u)
    by_test true f = absurd (let none : None ≡ Some us = f in cc)
    by_test false f = pieces_ends k Least has u us h f

-- ---- one item

whole_type : (k : Normalizer) (x : Item) → type_of_item k.tables (whole_item k x) ≡ type_of_item k.tables x
whole_type k x = ap₂ (λ (n p : ℕ). joining_type k.tables n (bit_and p 0x1F)) (whole_number k x) (whole_props k x)

-- an item that stays whole is ordered as it was
whole_ordered : (k : Normalizer) (x : Item) (b : Bool) → (mark_class x == 0 || b) ≡ true → (mark_class (whole_item k x) == 0 || b) ≡ true
whole_ordered k x b h = by_glyph (k.glyph_of x.number)
  where
    by_space : (o : Option ℕ) → space_glyph k x ≡ o → (mark_class (with_glyph_of_space k x o) == 0 || b) ≡ true
    by_space None e = h
    by_space (Some g) e = elim (cases_Bool (is_typed_space x)) [
      | inl found ↦ ap (λ n. n == 0 || b) (no_mark_class (with_glyph_of_space k x (Some g)) (space_is_no_mark x (and_parts (is_space x) _ found).0))
      | inr lacks ↦ absurd (let none : None ≡ Some g = sym (cond-false _ _ _ lacks) ∙ e in cc)
    ]

    by_glyph : (o : Option ℕ) → (mark_class (with_found_glyph k x o) == 0 || b) ≡ true
    by_glyph None = by_space (space_glyph k x) refl
    by_glyph (Some g) = h

whole_typed : (k : Normalizer) (x : Item) → IsTyped k.tables x → IsTyped k.tables (whole_item k x)
whole_typed k x h = record {
  own = whole_type k x ∙ h.own ∙ ap (type_of_character k.tables) (sym (whole_number k x));
  ordered = ap (λ y. mark_class (whole_item k x) == 0 || joins_nothing y) (whole_type k x) ∙ whole_ordered k x (joins_nothing (type_of_item k.tables x)) h.ordered;
}

-- an item that stands for a character has its type
standing_type : (t : Tables) (u : ℕ) (x : Item) → type_of_item t (standing_for t u x) ≡ type_of_character t u
standing_type t u x = ap (joining_type t u) (low_bits_are_the_category u)

-- a class that is a mark's is that of the character
classes : (a b d : Bool) (n : ℕ) → (n == 0 || d) ≡ true → ((if a then (if b then n else 0) else 0) == 0 || d) ≡ true
classes true true d n h = h
classes true false d n h = refl
classes false b d n h = refl

pub standing_ordered : (k : Normalizer) (u : ℕ) (m d : Bool) → (class_of k.tables u == 0 || d) ≡ true → ((if m then character_class k.tables u else 0) == 0 || d) ≡ true
unfolding character_class
standing_ordered k u m d h = classes m (is_mark_character u) d (class_of k.tables u) h

pub standing_typed : (k : Normalizer) (u : ℕ) (x : Item) → KeepsTypes k → IsTyped k.tables (standing_for k.tables u x)
standing_typed k u x h = record {
  own = standing_type k.tables u x;
  ordered = ap (λ y. mark_class (standing_for k.tables u x) == 0 || joins_nothing y) (standing_type k.tables u x)
      ∙ standing_ordered k u (is_mark (standing_for k.tables u x)) (joins_nothing (type_of_character k.tables u)) (h.ordered u);
}

piece_type : (k : Normalizer) (x : Item) (u : ℕ) → type_of_item k.tables (piece_of k x u) ≡ type_of_character k.tables u
unfolding piece_of
piece_type k x u = standing_type k.tables u x

piece_typed : (k : Normalizer) (x : Item) (u : ℕ) → KeepsTypes k → IsTyped k.tables (piece_of k x u)
unfolding piece_of
piece_typed k x u h = let p = standing_typed k u x h in record { own = p.own; ordered = p.ordered }

pieces_typed : (k : Normalizer) (x : Item) (us : List ℕ) → KeepsTypes k → All (IsTyped k.tables) (map (piece_of k x) us)
pieces_typed k x [] h = All-nil (IsTyped k.tables)
pieces_typed k x (u ∷ us) h = All-cons (IsTyped k.tables) (piece_of k x u) (map (piece_of k x) us) (piece_typed k x u h) (pieces_typed k x us h)

pieces_types : (k : Normalizer) (x : Item) (us : List ℕ) → types_of_items k.tables (map (piece_of k x) us) ≡ map (type_of_character k.tables) us
pieces_types k x [] = refl
pieces_types k x (u ∷ us) = ap₂ (λ (y : JoiningType) (ys : List JoiningType). y ∷ ys) (piece_type k x u) (pieces_types k x us)

item_stands : (k : Normalizer) (reach : Reach) (x : Item) → KeepsTypes k → IsTyped k.tables x → StandFor k.tables (x ∷ []) (expanded_item k reach x)
unfolding expanded_item
item_stands k reach x h p = by_found (expansion reach (has_character k) k.splits x.number) refl
  where
    by_found : (o : Option (List ℕ)) → expansion reach (has_character k) k.splits x.number ≡ o → StandFor k.tables (x ∷ []) (items_for k x o)
    by_found None e = stand_one k.tables x (whole_item k x) (whole_type k x) (whole_typed k x p)
    by_found (Some us) e = record {
      ends = ap ends_of (pieces_types k x us) ∙ found_ends k reach (has_character k) x.number us h.halves e ∙ ap ends_of_one (sym p.own) ∙ sym (one_ends k.tables x);
      typed = pieces_typed k x us h;
    }

-- ---- selectors

pub head_typed : (t : Tables) (x : Item) (xs : List Item) → All (IsTyped t) (x ∷ xs) → IsTyped t x
head_typed t x xs h = All-head (IsTyped t) x xs h

pub tail_typed : (t : Tables) (x : Item) (xs : List Item) → All (IsTyped t) (x ∷ xs) → All (IsTyped t) xs
tail_typed t x xs h = All-tail (IsTyped t) x xs h

with_low : (p r : ℕ) → r ≡ p % 32 → (p - r + 1) % 32 ≡ 1
with_low p r e = omega (arith, e)

low_stays : (p q r : ℕ) → r ≡ q * 32 → r ≤ p → (p - r) % 32 ≡ p % 32
low_stays p q r e le = omega (arith, e, le)

-- the number of the category of format characters
abbrev FORMAT : ℕ
FORMAT = 1

format_word : (p : ℕ) → bit_and (bit_or (with_category FORMAT p) 0x400) 0x1F ≡ FORMAT
format_word p = and_or_apart 0x1F (with_category FORMAT p) 0x400 refl ∙ and_mask (with_category FORMAT p) 5 ∙ with_low p (bit_and p 0x1F) (and_mask p 5)

visible_word : (p : ℕ) → bit_and (without_bits 0x20 p) 0x1F ≡ bit_and p 0x1F
visible_word p =
    let e : bit_and p 32 ≡ (p / 32 % 2) * 32 = and_high p 1 5 in
    let le : bit_and p 32 ≤ p = omega (arith, e) in
    and_mask (without_bits 0x20 p) 5 ∙ (low_stays p (p / 32 % 2) (bit_and p 32) e le ∙ sym (and_mask p 5))

-- a selector that isn't joined is a format character
unjoined_category : (b : Bool) (x : Item) → category_of (unjoined_selector b x) ≡ FORMAT
unjoined_category true x = visible_word (bit_or (with_category FORMAT x.unicode_props) 0x400) ∙ format_word x.unicode_props
unjoined_category false x = format_word x.unicode_props

-- the type of a selector with another category: one that is listed keeps its type, else both are transparent
selector_type : (t : Tables) (u category : ℕ) → joining_type t u category ≡ T → joining_type t u FORMAT ≡ T
selector_type t u category e = by_row (listed_type t u) e
  where
    by_row : (o : Option JoiningType) → unwrap_or o (type_of_category category) ≡ T → unwrap_or o (type_of_category FORMAT) ≡ T
    by_row None f = refl
    by_row (Some y) f = f

unjoined_type : (k : Normalizer) (b : Bool) (x : Item) → KeepsTypes k → IsTyped k.tables x → is_selector x ≡ true → type_of_item k.tables (unjoined_selector b x) ≡ T
unjoined_type k b x h p e = ap (joining_type k.tables x.number) (unjoined_category b x) ∙ selector_type k.tables x.number (category_of x) (p.own ∙ h.selectors x.number e)

unjoined_stands : (k : Normalizer) (b : Bool) (x : Item) → KeepsTypes k → IsTyped k.tables x → is_selector x ≡ true → StandFor k.tables (x ∷ []) (with_own_glyph k (unjoined_selector b x) ∷ [])
unjoined_stands k b x h p e =
    let type = unjoined_type k b x h p e in
    let whole = h.selectors x.number e in
    stand_one k.tables x (with_own_glyph k (unjoined_selector b x)) (type ∙ sym (p.own ∙ whole)) (record {
      own = type ∙ sym whole;
      ordered = ap (λ n. n == 0 || joins_nothing (type_of_item k.tables (unjoined_selector b x))) (no_mark_class (unjoined_selector b x) (ap is_mark_number (unjoined_category b x)));
    })

own_stands : (k : Normalizer) (x : Item) → IsTyped k.tables x → StandFor k.tables (x ∷ []) (with_own_glyph k x ∷ [])
own_stands k x p = stand_one k.tables x (with_own_glyph k x) refl (record { own = p.own; ordered = p.ordered })

-- a selector that the font joins with the item before it is transparent
joined_stands : (k : Normalizer) (x s : Item) (g : ℕ) → KeepsTypes k → IsTyped k.tables x → IsTyped k.tables s → is_selector s ≡ true → StandFor k.tables (x ∷ s ∷ []) (with_glyph g x ∷ [])
joined_stands k x s g h p q e =
    let none : ends_of_one (type_of_item k.tables s) ≡ None = ap ends_of_one (q.own ∙ h.selectors s.number e) in
    record {
      ends = ap (ends_joined (ends_of_one (type_of_item k.tables x))) (sym none ∙ sym (one_ends k.tables s));
      typed = typed_one k.tables (with_glyph g x) (record { own = p.own; ordered = p.ordered });
    }

selection_stands : (k : Normalizer) (x s : Item) (o : Option ℕ) → KeepsTypes k → IsTyped k.tables x → IsTyped k.tables s → is_selector s ≡ true → StandFor k.tables (x ∷ s ∷ []) (in_turn (selection k x s o)).items
selection_stands k x s None h p q e =
    let b = is_some k.unjoined_glyph in
    stand_both k.tables (x ∷ []) (with_own_glyph k x ∷ []) (s ∷ []) (with_own_glyph k (unjoined_selector b s) ∷ []) (own_stands k x p) (unjoined_stands k b s h q e)
selection_stands k x s (Some g) h p q e = joined_stands k x s g h p q e

meets_stand : (k : Normalizer) (o : Option Item) (s : Item) → KeepsTypes k → All (IsTyped k.tables) (pending o) → IsTyped k.tables s → is_selector s ≡ true → StandFor k.tables (pending o ++ s ∷ []) (in_turn (meets_selector k o s)).items
meets_stand k None s h p q e = own_stands k s q
meets_stand k (Some x) s h p q e = selection_stands k x s (k.variant_of x.number s.number) h (head_typed k.tables x [] p) q e

pending_stand : (k : Normalizer) (o : Option Item) → All (IsTyped k.tables) (pending o) → StandFor k.tables (pending o) (in_turn (pending_item k o)).items
pending_stand k None p = stand_none k.tables
pending_stand k (Some x) p = own_stands k x (head_typed k.tables x [] p)

turn_stand : (t : Tables) (xs ys : List Item) (rs ss : List Arrangement) → StandFor t xs (in_turn rs).items → StandFor t ys (in_turn ss).items → StandFor t (xs ++ ys) (in_turn (rs ++ ss)).items
turn_stand t xs ys rs ss p q = subst (StandFor t (xs ++ ys)) (sym (turn_items rs ss)) (stand_both t xs (in_turn rs).items ys (in_turn ss).items p q)

selections_stand : (k : Normalizer) (o : Option Item) (xs : List Item) → KeepsTypes k → All (IsTyped k.tables) (pending o) → All (IsTyped k.tables) xs → StandFor k.tables (pending o ++ xs) (in_turn (selections_after k o xs)).items
selections_stand k o [] h p q = subst (λ zs. StandFor k.tables zs (in_turn (pending_item k o)).items) (sym (append-nil (pending o))) (pending_stand k o p)
selections_stand k o (x ∷ xs) h p q =
    let t = k.tables in
    elim (cases_Bool (is_selector x)) [
      | inl found ↦
          subst (λ rs. StandFor t (pending o ++ x ∷ xs) (in_turn rs).items) (sym (cond-true _ _ _ found))
          (subst (λ zs. StandFor t zs (in_turn (meets_selector k o x ++ selections_after k None xs)).items) (append_assoc (pending o) (x ∷ []) xs)
          (turn_stand t (pending o ++ x ∷ []) xs (meets_selector k o x) (selections_after k None xs) (meets_stand k o x h p (head_typed t x xs q) found) (selections_stand k None xs h (All-nil (IsTyped t)) (tail_typed t x xs q))))
      | inr lacks ↦
          subst (λ rs. StandFor t (pending o ++ x ∷ xs) (in_turn rs).items) (sym (cond-false _ _ _ lacks))
          (turn_stand t (pending o) (x ∷ xs) (pending_item k o) (selections_after k (Some x) xs) (pending_stand k o p) (selections_stand k (Some x) xs h (typed_one t x (head_typed t x xs q)) (tail_typed t x xs q)))
    ]

-- ---- groups

each_stand : (k : Normalizer) (reach : Reach) (xs : List Item) → KeepsTypes k → All (IsTyped k.tables) xs → StandFor k.tables xs (in_turn (map (item_expansion k reach) xs)).items
each_stand k reach [] h p = stand_none k.tables
each_stand k reach (x ∷ xs) h p =
    stand_both k.tables (x ∷ []) (expanded_item k reach x) xs (in_turn (map (item_expansion k reach) xs)).items (item_stands k reach x h (head_typed k.tables x xs p)) (each_stand k reach xs h (tail_typed k.tables x xs p))

with_marks_stand : (k : Normalizer) (x : Item) (marks : List Item) → KeepsTypes k → All (IsTyped k.tables) (x ∷ marks) → StandFor k.tables (x ∷ marks) (in_turn (expanded_with_marks k x marks)).items
with_marks_stand k x marks h p =
    elim (list_any is_selector (x ∷ marks)) as (λ b. StandFor k.tables (x ∷ marks) (in_turn (if b then selections_after k (Some x) marks else map (item_expansion k (reach_with_marks k.mode)) (x ∷ marks))).items) [
      | true ↦ selections_stand k (Some x) marks h (typed_one k.tables x (head_typed k.tables x marks p)) (tail_typed k.tables x marks p)
      | false ↦ each_stand k (reach_with_marks k.mode) (x ∷ marks) h p
    ]

group_stands : (k : Normalizer) (x : Item) (marks : List Item) → KeepsTypes k → All (IsTyped k.tables) (x ∷ marks) → StandFor k.tables (x ∷ marks) (in_turn (expanded_group k x marks)).items
group_stands k x [] h p = each_stand k (reach_alone k.mode) (x ∷ []) h p
group_stands k x (m ∷ marks) h p = with_marks_stand k x (m ∷ marks) h p

groups_stand : (k : Normalizer) (x : Item) (marks xs : List Item) → KeepsTypes k → All (IsTyped k.tables) (x ∷ marks) → All (IsTyped k.tables) xs → StandFor k.tables ((x ∷ marks) ++ xs) (in_turn (expanded_groups k x marks xs)).items
groups_stand k x marks [] h p q = subst (λ zs. StandFor k.tables zs (in_turn (expanded_group k x marks)).items) (sym (append-nil (x ∷ marks))) (group_stands k x marks h p)
groups_stand k x marks (y ∷ ys) h p q =
    by_test (is_mark y) (groups_stand k x (marks ++ y ∷ []) ys h (typed_both t (x ∷ marks) (y ∷ []) p (typed_one t y (head_typed t y ys q))) (tail_typed t y ys q)) (groups_stand k y [] ys h (typed_one t y (head_typed t y ys q)) (tail_typed t y ys q))
  where
    t : Tables
    t = k.tables

    by_test : (b : Bool) → StandFor k.tables ((x ∷ (marks ++ y ∷ [])) ++ ys) (in_turn (expanded_groups k x (marks ++ y ∷ []) ys)).items → StandFor k.tables ((y ∷ []) ++ ys) (in_turn (expanded_groups k y [] ys)).items
        → StandFor k.tables ((x ∷ marks) ++ y ∷ ys) (in_turn (if b then expanded_groups k x (marks ++ y ∷ []) ys else expanded_group k x marks ++ expanded_groups k y [] ys)).items
    by_test true longer next = subst (λ zs. StandFor k.tables (x ∷ zs) (in_turn (expanded_groups k x (marks ++ y ∷ []) ys)).items) (append_assoc marks (y ∷ []) ys) longer
    by_test false longer next = turn_stand k.tables (x ∷ marks) (y ∷ ys) (expanded_group k x marks) (expanded_groups k y [] ys) (group_stands k x marks h p) next

pub expanded_stand : (k : Normalizer) (xs : List Item) → KeepsTypes k → All (IsTyped k.tables) xs → StandFor k.tables xs (expanded_list k xs).items
expanded_stand k [] h p = stand_none k.tables
expanded_stand k (x ∷ xs) h p = groups_stand k x [] xs h (typed_one k.tables x (head_typed k.tables x xs p)) (tail_typed k.tables x xs p)

-- ---- orders

-- an item that canonical ordering may move joins nothing
classed_quiet : (t : Tables) (x : Item) → IsTyped t x → (mark_class x == 0) ≡ false → joins_nothing (type_of_item t x) ≡ true
classed_quiet t x p e = sym (ap (λ b. b || joins_nothing (type_of_item t x)) e) ∙ p.ordered

sorted_stands : (t : Tables) (reorders : List Item → Arrangement) (run : List Item) → OrderKeepsTypes t reorders → All (IsTyped t) run → AreQuiet t run → StandFor t run (sorted_run reorders run).items
sorted_stands t reorders run keeps p q =
    let sorted = run_order mark_class run in
    let moved = in_class_order run in
    let typed = All-permutation (IsTyped t) run sorted moved p in
    let quiet = All-permutation (λ (y : Item). joins_nothing (type_of_item t y) ≡ true) run sorted moved q in
    stand_then t run sorted (reorders sorted).items (record { ends = quiet_moved t run sorted q moved; typed = typed }) (keeps sorted typed quiet)

run_stands : (t : Tables) (reorders : List Item → Arrangement) (run : List Item) → OrderKeepsTypes t reorders → All (IsTyped t) run → AreQuiet t run → StandFor t run (arranged_run reorders run).items
unfolding arranged_run
run_stands t reorders [] keeps p q = stand_none t
run_stands t reorders (x ∷ xs) keeps p q =
    elim (nat_le (length (x ∷ xs)) MAX_COMBINING_MARKS) as (λ b. StandFor t (x ∷ xs) (if b then sorted_run reorders (x ∷ xs) else eventless_arrangement (x ∷ xs)).items)
    [ true ↦ sorted_stands t reorders (x ∷ xs) keeps p q | false ↦ stand_same t (x ∷ xs) p ]

runs_stand : (t : Tables) (reorders : List Item → Arrangement) (run xs : List Item) → OrderKeepsTypes t reorders → All (IsTyped t) run → AreQuiet t run → All (IsTyped t) xs → StandFor t (run ++ xs) (in_turn (arranged_runs reorders run xs)).items
runs_stand t reorders run [] keeps p q h =
    subst (λ zs. StandFor t zs ((arranged_run reorders run).items ++ [])) (sym (append-nil run)) (subst (StandFor t run) (sym (append-nil (arranged_run reorders run).items)) (run_stands t reorders run keeps p q))
runs_stand t reorders run (x ∷ xs) keeps p q h =
    let quiet = λ (y : Item). joins_nothing (type_of_item t y) ≡ true in
    let here = head_typed t x xs h in
    let rest = tail_typed t x xs h in
    elim (cases_Bool (mark_class x == 0)) [
      | inl starts ↦
          subst (λ rs. StandFor t (run ++ x ∷ xs) (in_turn rs).items) (sym (cond-true _ _ _ starts))
          (stand_both t run (arranged_run reorders run).items (x ∷ xs) (x ∷ (in_turn (arranged_runs reorders [] xs)).items) (run_stands t reorders run keeps p q)
          (stand_both t (x ∷ []) (x ∷ []) xs (in_turn (arranged_runs reorders [] xs)).items (stand_same t (x ∷ []) (typed_one t x here)) (runs_stand t reorders [] xs keeps (All-nil (IsTyped t)) (All-nil quiet) rest)))
      | inr classed ↦
          subst (λ rs. StandFor t (run ++ x ∷ xs) (in_turn rs).items) (sym (cond-false _ _ _ classed))
          (subst (λ zs. StandFor t zs (in_turn (arranged_runs reorders (run ++ x ∷ []) xs)).items) (append_assoc run (x ∷ []) xs)
          (runs_stand t reorders (run ++ x ∷ []) xs keeps (typed_both t run (x ∷ []) p (typed_one t x here)) (All-append quiet run (x ∷ []) q (All-cons quiet x [] (classed_quiet t x here classed) (All-nil quiet))) rest))
    ]

pub ordered_stand : (b : Bool) (k : Normalizer) (xs : List Item) → OrderKeepsTypes k.tables k.reorders → All (IsTyped k.tables) xs → StandFor k.tables xs (ordering_if b k xs).items
ordered_stand true k xs keeps p = runs_stand k.tables k.reorders [] xs keeps (All-nil (IsTyped k.tables)) (All-nil (λ (y : Item). joins_nothing (type_of_item k.tables y) ≡ true)) p
ordered_stand false k xs keeps p = stand_same k.tables xs p

-- ---- joiners

shown_stands : (t : Tables) (x : Item) → IsTyped t x → StandFor t (x ∷ []) (visible_item x ∷ [])
shown_stands t x p =
    let same = category_shown x.unicode_props in
    let type : type_of_item t (visible_item x) ≡ type_of_item t x = ap (joining_type t x.number) same in
    stand_one t x (visible_item x) type (record { own = type ∙ p.own; ordered = ap₂ (λ (n : ℕ) (y : JoiningType). (if is_mark_number n then x.class else 0) == 0 || joins_nothing y) same type ∙ p.ordered })

between_stands : (t : Tables) (before x after : Item) → IsTyped t x → StandFor t (x ∷ []) (joiner_between before x after ∷ [])
between_stands t before x after p =
    elim (x.number == 0x034F && separates_nothing before after) as (λ b. StandFor t (x ∷ []) ((if b then visible_item x else x) ∷ [])) [ true ↦ shown_stands t x p | false ↦ stand_same t (x ∷ []) (typed_one t x p) ]

later_stand : (t : Tables) (before : Item) (xs : List Item) → All (IsTyped t) xs → StandFor t xs (with_joiners_shown before xs)
later_stand t before [] p = stand_none t
later_stand t before (x ∷ []) p = stand_same t (x ∷ []) p
later_stand t before (x ∷ y ∷ ys) p =
    stand_both t (x ∷ []) (joiner_between before x y ∷ []) (y ∷ ys) (with_joiners_shown x (y ∷ ys)) (between_stands t before x y (head_typed t x (y ∷ ys) p)) (later_stand t x (y ∷ ys) (tail_typed t x (y ∷ ys) p))

shown_stand : (t : Tables) (xs : List Item) → All (IsTyped t) xs → StandFor t xs (joiners_shown xs)
shown_stand t [] p = stand_none t
shown_stand t (x ∷ xs) p = stand_both t (x ∷ []) (x ∷ []) xs (with_joiners_shown x xs) (stand_same t (x ∷ []) (typed_one t x (head_typed t x xs p))) (later_stand t x xs (tail_typed t x xs p))

-- ---- composition

-- a mark that isn't blocked by others between it and its starter has a class, where there are others
unblocked : (m : Item) (between : List Item) (y : Item) → is_not_blocked (y ∷ between) m ≡ true → (mark_class m == 0) ≡ false
unblocked m between y e = above (last_class (mark_class y) between) (mark_class m) e
  where
    above : (a b : ℕ) → nat_lt a b ≡ true → (b == 0) ≡ false
    above a b f = grind (arith, nat_tests, common_steps, f)

-- the composite of a starter and a mark, among others
composite_ends : (k : Normalizer) (starter z x : Item) (between xs : List Item) → AreSeenAs (type_of_item k.tables z) (type_of_item k.tables starter) (type_of_item k.tables x) → IsTyped k.tables x → is_not_blocked between x ≡ true → AreQuiet k.tables between
    → item_ends k.tables (z ∷ (between ++ xs)) ≡ item_ends k.tables (starter ∷ (between ++ x ∷ xs))
composite_ends k starter z x [] xs seen p free q =
    let t = k.tables in
    ap (λ e. ends_joined e (item_ends t xs)) (sym (two_seen (type_of_item t z) (type_of_item t starter) (type_of_item t x) seen)) ∙ joined_assoc (ends_of_one (type_of_item t starter)) (ends_of_one (type_of_item t x)) (item_ends t xs)
composite_ends k starter z x (y ∷ between) xs seen p free q =
    let t = k.tables in
    let all = list_any (is_letter_item t) (y ∷ between) in
    ap (ends_joined (ends_of_one (type_of_item t z))) (items_both t (y ∷ between) xs ∙ ap (λ e. ends_joined e (item_ends t xs)) (quiet_items t (y ∷ between) q))
    ∙ sym (composed_seen (type_of_item t z) (type_of_item t starter) (type_of_item t x) all (item_ends t xs) seen (classed_quiet t x p (unblocked x between y free)))
    ∙ ap (ends_joined (ends_of_one (type_of_item t starter))) (ap (λ e. ends_joined e (item_ends t (x ∷ xs))) (sym (quiet_items t (y ∷ between) q)) ∙ sym (items_both t (y ∷ between) (x ∷ xs)))

-- what a composite is to the letters beside it, if there is one
abbrev IsSeenIf : Normalizer → Item → List Item → Item → Option Item → Type 0
IsSeenIf k starter between x None = Unit {0}
IsSeenIf k starter between x (Some z) = AreSeenAs (type_of_item k.tables z) (type_of_item k.tables starter) (type_of_item k.tables x) × (IsTyped k.tables z × (is_not_blocked between x ≡ true))

composite_seen : (k : Normalizer) (starter : Item) (between : List Item) (x : Item) → KeepsTypes k → IsTyped k.tables starter → IsTyped k.tables x → IsSeenIf k starter between x (composite k starter between x)
unfolding composite
composite_seen k starter between x h p q = by_test (is_mark x && is_not_blocked between x) refl
  where
    by_glyph : (u : ℕ) (o : Option ℕ) → k.composes starter.number x.number ≡ Some u → is_not_blocked between x ≡ true → IsSeenIf k starter between x (option_map (λ g. with_glyph g (standing_for k.tables u starter)) o)
    by_glyph u None e free = tt
    by_glyph u (Some g) e free =
        let s = standing_typed k u starter h in
        let seen = h.composites starter.number x.number u e in
        let here : type_of_item k.tables (with_glyph g (standing_for k.tables u starter)) ≡ type_of_character k.tables u = standing_type k.tables u starter in (
          subst (λ (y : JoiningType). AreSeenAs y (type_of_item k.tables starter) (type_of_item k.tables x)) (sym here)
              (subst (λ (y : JoiningType). AreSeenAs (type_of_character k.tables u) y (type_of_item k.tables x)) (sym p.own) (subst (λ (y : JoiningType). AreSeenAs (type_of_character k.tables u) (type_of_character k.tables starter.number) y) (sym q.own) seen)),
          (record { own = s.own; ordered = s.ordered }, free),
        )

    by_found : (o : Option ℕ) → k.composes starter.number x.number ≡ o → is_not_blocked between x ≡ true → IsSeenIf k starter between x (option_and_then (becoming k starter) o)
    by_found None e free = tt
    by_found (Some u) e free = by_glyph u (k.glyph_of u) e free

    by_test : (b : Bool) → (is_mark x && is_not_blocked between x) ≡ b → IsSeenIf k starter between x (if b then option_and_then (becoming k starter) (k.composes starter.number x.number) else None)
    by_test true e = by_found (k.composes starter.number x.number) refl (and_parts (is_mark x) (is_not_blocked between x) e).1
    by_test false e = tt

-- the items done, a starter, those between, and those that are left
abbrev in_line : List Item → Item → List Item → List Item → List Item
in_line done starter between xs = done ++ ((starter ∷ between) ++ xs)

from_stands : (k : Normalizer) (done : List Item) (starter : Item) (between xs : List Item) → KeepsTypes k → All (IsTyped k.tables) done → IsTyped k.tables starter → All (IsTyped k.tables) between → AreQuiet k.tables between → All (IsTyped k.tables) xs
    → StandFor k.tables (in_line done starter between xs) (composition_from k done starter between xs).items
from_stands k done starter between [] h d s b q p =
    subst (λ zs. StandFor k.tables zs (done ++ starter ∷ between)) (ap (λ zs. done ++ zs) (sym (append-nil (starter ∷ between))))
    (stand_same k.tables (done ++ starter ∷ between) (typed_both k.tables done (starter ∷ between) d (All-cons (IsTyped k.tables) starter between s b)))
from_stands k done starter between (x ∷ xs) h d s b q p =
    let t = k.tables in
    let here = head_typed t x xs p in
    let rest = tail_typed t x xs p in
    let group = All-cons (IsTyped t) starter between s b in
    by_composite (composite k starter between x) (composite_seen k starter between x h s here)
    (from_stands k (done ++ starter ∷ between) x [] xs h (typed_both t done (starter ∷ between) d group) here (All-nil (IsTyped t)) (All-nil quiet) rest)
    (λ classed. from_stands k done starter (between ++ x ∷ []) xs h d s (typed_both t between (x ∷ []) b (typed_one t x here)) (All-append quiet between (x ∷ []) q (All-cons quiet x [] (classed_quiet t x here classed) (All-nil quiet))) rest)
    (λ z typed. from_stands k done z between xs h d typed b q rest)
  where
    quiet : Item → Type 0
    quiet y = joins_nothing (type_of_item k.tables y) ≡ true

    next_line : in_line (done ++ starter ∷ between) x [] xs ≡ in_line done starter between (x ∷ xs)
    next_line = append_assoc done (starter ∷ between) (x ∷ xs)

    more_line : in_line done starter (between ++ x ∷ []) xs ≡ in_line done starter between (x ∷ xs)
    more_line = ap (λ zs. done ++ (starter ∷ zs)) (append_assoc between (x ∷ []) xs)

    by_class : (c : Bool) → (mark_class x == 0) ≡ c → StandFor k.tables (in_line (done ++ starter ∷ between) x [] xs) (composition_from k (done ++ starter ∷ between) x [] xs).items
        → ((mark_class x == 0) ≡ false → StandFor k.tables (in_line done starter (between ++ x ∷ []) xs) (composition_from k done starter (between ++ x ∷ []) xs).items)
        → StandFor k.tables (in_line done starter between (x ∷ xs)) (if c then composition_from k (done ++ starter ∷ between) x [] xs else composition_from k done starter (between ++ x ∷ []) xs).items
    by_class true e next more = subst (λ zs. StandFor k.tables zs (composition_from k (done ++ starter ∷ between) x [] xs).items) next_line next
    by_class false e next more = subst (λ zs. StandFor k.tables zs (composition_from k done starter (between ++ x ∷ []) xs).items) more_line (more e)

    by_composite : (o : Option Item) → IsSeenIf k starter between x o → StandFor k.tables (in_line (done ++ starter ∷ between) x [] xs) (composition_from k (done ++ starter ∷ between) x [] xs).items
        → ((mark_class x == 0) ≡ false → StandFor k.tables (in_line done starter (between ++ x ∷ []) xs) (composition_from k done starter (between ++ x ∷ []) xs).items)
        → ((z : Item) → IsTyped k.tables z → StandFor k.tables (in_line done z between xs) (composition_from k done z between xs).items)
        → StandFor k.tables (in_line done starter between (x ∷ xs)) (option_map_or (λ composed. with_composition (length done) (length done + 1 + length between) (composition_from k done composed between xs)) o
        (if mark_class x == 0 then composition_from k (done ++ starter ∷ between) x [] xs else composition_from k done starter (between ++ x ∷ []) xs)).items
    by_composite None seen next more joined = by_class (mark_class x == 0) refl next more
    by_composite (Some z) seen next more joined =
        let r = joined z seen.1.0 in
        let line = composite_ends k starter z x between xs seen.0 (head_typed k.tables x xs p) seen.1.1 q in
        record {
          ends = r.ends ∙ items_both k.tables done ((z ∷ between) ++ xs) ∙ ap (ends_joined (item_ends k.tables done)) line ∙ sym (items_both k.tables done ((starter ∷ between) ++ x ∷ xs));
          typed = r.typed;
        }

composed_stand : (k : Normalizer) (xs : List Item) → KeepsTypes k → All (IsTyped k.tables) xs → StandFor k.tables xs (composed_list k xs).items
composed_stand k [] h p = stand_none k.tables
composed_stand k (x ∷ xs) h p = from_stands k [] x [] xs h (All-nil (IsTyped k.tables)) (head_typed k.tables x xs p) (All-nil (IsTyped k.tables)) (All-nil (λ (y : Item). joins_nothing (type_of_item k.tables y) ≡ true)) (tail_typed k.tables x xs p)

pub composition_stands : (b : Bool) (k : Normalizer) (xs : List Item) → KeepsTypes k → All (IsTyped k.tables) xs → StandFor k.tables xs (composition_if b k (joiners_shown xs)).items
composition_stands true k xs h p =
    let shown = shown_stand k.tables xs p in
    stand_then k.tables xs (joiners_shown xs) (composed_list k (joiners_shown xs)).items shown (composed_stand k (joiners_shown xs) h shown.typed)
composition_stands false k xs h p = shown_stand k.tables xs p

-- Where U+034F ends a text that is expanded and ordered, and how it begins.
use Rattle.std.proofs.Common.{ℕ, zero, suc, ◌≡◌, ◌<◌, ◌==◌, ◌||◌, ◌⊎◌, inl, inr, nat_le, Bool, true, false, if◌then◌else◌, eqb-true, List, [], ◌∷◌, ◌++◌, length, map, take, drop, Option, None, Some, is_some, append_assoc, append-nil, arith, refl, sym, ap, subst, ◌∙◌}
use Rattle.std.specs.List.{list_any}
use Rattle.std.specs.List.Sorted.{IsPermutation}
use Rattle.std.proofs.lemmas.Bool.{cases_Bool, cond-true, cond-false, and_parts}
use Rattle.std.proofs.lemmas.List.Sorted.{length_permutation, list_any-IsPermutation}
use Rattle.buffer_rows.specs.KeyOrder.{key_bound}
use Rattle.buffer_lists.specs.Lemmas.KeyOrder.{all_below, by_key_moves}
use Rattle.buffer_unicode.specs.Character.{is_variation_selector_character}
use Rattle.buffer_unicode_tables.specs.ClassOrder.{run_order}
use Rattle.buffer_unicode_tables.specs.Expansion.{Splits, with_second_piece}
use Rattle.buffer_unicode_tables.specs.Tables.{Tables, class_of}
use Rattle.buffer_glyphs.specs.Items.{Item}
use Rattle.buffer_glyphs.specs.Rewriting.{Arrangement, eventless_arrangement, in_turn}
use Rattle.buffer_properties.proofs.Classes.{mark_of_character}
use Rattle.buffer_properties.proofs.Kept.{alone_is, mapped_is, preferred_is, space_is_no_mark}
use Rattle.buffer_properties.specs.Characters.{category_of, is_mark, is_mark_number, is_selector, is_space, mark_class, unjoined_selector}
use Rattle.buffer_properties.specs.Properties.{character_class, is_mark_character}
use Rattle.buffer_properties.specs.Expanding.{expanded_group, expanded_groups, expanded_item, expanded_list, expanded_with_marks, is_typed_space, item_expansion, items_for, meets_selector, pending_item, piece_of, selection, selections_after, space_glyph, unexpanded_item, whole_item, with_found_glyph, with_glyph_of_space}
use Rattle.buffer_properties.specs.NormalizedList.{ordering_if}
use Rattle.buffer_properties.specs.Normalizer.{Normalizer, has_character, reach_alone, reach_with_marks}
use Rattle.buffer_properties.specs.Ordering.{arranged_run, arranged_runs, ordered_list, sorted_run}
use Rattle.buffer_properties.specs.SupportedExpansion.{alone, by_supported, expansion, in_pieces, supported_expansion}
use Rattle.buffer_properties.specs.declared.normal_mode.Reach.{Reach}
use Rattle.buffer_properties.specs.declared.normal_mode.Reach.TheVariants.{Least, Greatest}
use Rattle.buffer_properties.specs.declared.normal_mode.TheConstants.{MAX_COMBINING_MARKS}
use Rattle.shape_laws.specs.Breaks.Characters.{AreUnjoined, HalvesKeepMarks, KeepsMarks, OrderEndsUnjoined, last_joined}
use Rattle.shape_laws.specs.Breaks.Normalizing.{BeginsAlone, EndsUnjoined, is_joiner}
use Rattle.shape_laws.proofs.BreakLemmas.Sorted.{in_class_order}
use Rattle.shape_normalize.proofs.Lemmas.Chain.{items_both as turn_items}

-- ---- the last item

pub last_both : (before : Bool) (xs ys : List Item) → last_joined before (xs ++ ys) ≡ last_joined (last_joined before xs) ys
last_both before [] ys = refl
last_both before (x ∷ xs) ys = last_both (is_joiner x) xs ys

-- where a text ends with no joiner after a joiner, it does after each character
pub last_anyway : (b d : Bool) (xs : List Item) → (b ≡ false) ⊎ (d ≡ true) → last_joined d xs ≡ false → last_joined b xs ≡ false
last_anyway b d [] (inl e) h = e
last_anyway b d [] (inr e) h = cc
last_anyway b d (x ∷ xs) e h = h

pub unjoined_last : (before : Bool) (xs : List Item) → AreUnjoined xs → 0 < length xs → last_joined before xs ≡ false
unjoined_last before [] h some = absurd (omega (arith, some))
unjoined_last before (x ∷ []) h some = h.0
unjoined_last before (x ∷ y ∷ ys) h some = unjoined_last (is_joiner x) (y ∷ ys) h.1 (omega arith)

pub ends_unjoined : (xs : List Item) → last_joined false xs ≡ false → EndsUnjoined xs
ends_unjoined [] h = tt
ends_unjoined (x ∷ []) h = h
ends_unjoined (x ∷ y ∷ ys) h = ends_unjoined (y ∷ ys) h

-- ---- the pieces of a character

-- some characters begin with one that is no mark
abbrev BeginsUnmarked : List ℕ → Type 0
BeginsUnmarked [] = ⊥
BeginsUnmarked (u ∷ us) = is_mark_character u ≡ false

-- none of some characters is U+034F
abbrev AreNoJoiners : List ℕ → Type 0
AreNoJoiners [] = Unit {0}
AreNoJoiners (u ∷ us) = ((u == 0x34F) ≡ false) × AreNoJoiners us

-- what stands for a character begins as it does, and has U+034F only for that
record StandsFor (u : ℕ) (us : List ℕ) : Type 0 where
  begins : is_mark_character u ≡ false → BeginsUnmarked us
  unjoined : (u == 0x34F) ≡ false → AreNoJoiners us
  some : 0 < length us

begins_both : (us vs : List ℕ) → BeginsUnmarked us → BeginsUnmarked (us ++ vs)
begins_both [] vs h = absurd h
begins_both (u ∷ us) vs h = h

unjoined_more : (us : List ℕ) (v : ℕ) → AreNoJoiners us → (v == 0x34F) ≡ false → AreNoJoiners (us ++ v ∷ [])
unjoined_more [] v h e = (e, tt)
unjoined_more (u ∷ us) v h e = (h.0, unjoined_more us v h.1 e)

some_more : (us : List ℕ) (v : ℕ) → 0 < length (us ++ v ∷ [])
some_more [] v = omega arith
some_more (u ∷ us) v = omega arith

with_second : (u a b : ℕ) (us : List ℕ) → HalvesKeepMarks u (Some (a, b)) → StandsFor a us → StandsFor u (with_second_piece b us)
with_second u a b us h s = by_test (b == 0)
  where
    by_test : (t : Bool) → StandsFor u (if t then us else us ++ b ∷ [])
    by_test true = record { begins = λ e. s.begins (h.0 e); unjoined = λ e. s.unjoined h.1.0; some = s.some }
    by_test false = record { begins = λ e. begins_both us (b ∷ []) (s.begins (h.0 e)); unjoined = λ e. unjoined_more us b (s.unjoined h.1.0) h.1.1; some = some_more us b }

supported_stands : (has : ℕ → Bool) (expand : ℕ → Option (List ℕ)) (u : ℕ) (o : Option (ℕ × ℕ)) (us : List ℕ) → HalvesKeepMarks u o → ((a : ℕ) (vs : List ℕ) → expand a ≡ Some vs → StandsFor a vs) → by_supported has expand o ≡ Some us → StandsFor u us
supported_stands has expand u None us k h e = absurd (let none : None ≡ Some us = e in cc)
supported_stands has expand u (Some (a, b)) us k h e =
    elim (cases_Bool (b == 0 || has b)) [
      | inl found ↦
          let at = mapped_is (with_second_piece b) (expand a) us (sym (cond-true _ _ _ found) ∙ e) in
          subst (StandsFor u) at.1.1 (with_second u a b at.0 k (h a at.0 at.1.0))
      | inr lacks ↦ absurd (let none : None ≡ Some us = sym (cond-false _ _ _ lacks) ∙ e in cc)
    ]

one_stands : (u : ℕ) → StandsFor u (u ∷ [])
one_stands u = record { begins = λ e. e; unjoined = λ e. (e, tt); some = omega arith }

expansion_stands : (reach : Reach) (has : ℕ → Bool) (splits : Splits) (depth u : ℕ) (us : List ℕ) → ((v : ℕ) → HalvesKeepMarks v (splits v)) → supported_expansion reach has splits depth u ≡ Some us → StandsFor u us
unfolding supported_expansion
expansion_stands reach has splits zero u us k e = subst (StandsFor u) (alone_is has u us e) (one_stands u)
expansion_stands reach has splits (suc depth) u us k e =
    elim (preferred_is reach (alone has u) (by_supported has (supported_expansion reach has splits depth) (splits u)) us e) [
      | inl whole ↦ subst (StandsFor u) (alone_is has u us whole) (one_stands u)
      | inr pieces ↦ supported_stands has (supported_expansion reach has splits depth) u (splits u) us (k u) (λ a vs h. expansion_stands reach has splits depth a vs k h) pieces
    ]

pieces_stand : (reach : Reach) (has : ℕ → Bool) (splits : Splits) (u : ℕ) (us : List ℕ) → ((v : ℕ) → HalvesKeepMarks v (splits v)) → in_pieces reach has splits u ≡ Some us → StandsFor u us
unfolding in_pieces
pieces_stand reach has splits u us k e = supported_stands has (supported_expansion reach has splits 8) u (splits u) us (k u) (λ a vs h. expansion_stands reach has splits 8 a vs k h) e

found_stands : (reach : Reach) (has : ℕ → Bool) (splits : Splits) (u : ℕ) (us : List ℕ) → ((v : ℕ) → HalvesKeepMarks v (splits v)) → expansion reach has splits u ≡ Some us → StandsFor u us
found_stands Greatest has splits u us k e = pieces_stand Greatest has splits u us k e
found_stands Least has splits u us k e = by_test (has u) e
  where
    by_test : (b : Bool) → (if b then None else in_pieces Least has splits u) ≡ Some us → StandsFor u us
    by_test true f = absurd (let none : None ≡ Some us = f in cc)
    by_test false f = pieces_stand Least has splits u us k f

-- ---- one item

-- U+034F has class 0
abbrev pub IsLow : Item → Type 0
IsLow x = is_joiner x ≡ true → mark_class x ≡ 0

abbrev pub AreLow : List Item → Type 0
AreLow [] = Unit {0}
AreLow (x ∷ xs) = IsLow x × AreLow xs

pub low_both : (xs ys : List Item) → AreLow xs → AreLow ys → AreLow (xs ++ ys)
low_both [] ys h k = k
low_both (x ∷ xs) ys h k = (h.0, low_both xs ys h.1 k)

pub low_first : (n : ℕ) (xs : List Item) → AreLow xs → AreLow (take n xs)
low_first zero xs h = tt
low_first (suc n) [] h = tt
low_first (suc n) (x ∷ xs) h = (h.0, low_first n xs h.1)

pub low_from : (n : ℕ) (xs : List Item) → AreLow xs → AreLow (drop n xs)
low_from zero xs h = h
low_from (suc n) [] h = tt
low_from (suc n) (x ∷ xs) h = low_from n xs h.1

-- an item is of a character that is a mark exactly where the item is one; and what stands for the character begins with no
-- mark where it is none
abbrev pub IsPlainly : Item → Type 0
IsPlainly x = (is_mark x ≡ false) × (is_mark_character x.number ≡ false)

pub whole_number : (c : Normalizer) (x : Item) → (whole_item c x).number ≡ x.number
whole_number c x = by_glyph (c.glyph_of x.number)
  where
    by_space : (o : Option ℕ) → (with_glyph_of_space c x o).number ≡ x.number
    by_space None = refl
    by_space (Some g) = refl

    by_glyph : (o : Option ℕ) → (with_found_glyph c x o).number ≡ x.number
    by_glyph None = by_space (space_glyph c x)
    by_glyph (Some g) = refl

pub whole_props : (c : Normalizer) (x : Item) → (whole_item c x).unicode_props ≡ x.unicode_props
whole_props c x = by_glyph (c.glyph_of x.number)
  where
    by_space : (o : Option ℕ) → (with_glyph_of_space c x o).unicode_props ≡ x.unicode_props
    by_space None = refl
    by_space (Some g) = refl

    by_glyph : (o : Option ℕ) → (with_found_glyph c x o).unicode_props ≡ x.unicode_props
    by_glyph None = by_space (space_glyph c x)
    by_glyph (Some g) = refl

pub no_mark_class : (x : Item) → is_mark x ≡ false → mark_class x ≡ 0
no_mark_class x e = ap (λ b. if b then x.class else 0) e

whole_low : (c : Normalizer) (x : Item) → IsLow x → IsLow (whole_item c x)
whole_low c x h = by_glyph (c.glyph_of x.number)
  where
    by_space : (o : Option ℕ) → space_glyph c x ≡ o → IsLow (with_glyph_of_space c x o)
    by_space None e = h
    by_space (Some g) e = λ joined. elim (cases_Bool (is_typed_space x)) [
      | inl found ↦ no_mark_class (with_glyph_of_space c x (Some g)) (space_is_no_mark x (and_parts (is_space x) _ found).0)
      | inr lacks ↦ absurd (let none : None ≡ Some g = sym (cond-false _ _ _ lacks) ∙ e in cc)
    ]

    by_glyph : (o : Option ℕ) → IsLow (with_found_glyph c x o)
    by_glyph None = by_space (space_glyph c x) refl
    by_glyph (Some g) = h

tested_twice : (a b : Bool) → ◌≡◌ {A = ℕ} (if a then (if b then 0 else 0) else 0) 0
tested_twice true true = refl
tested_twice true false = refl
tested_twice false b = refl

-- the class of U+034F, whether it is seen as a mark or not
pub joiner_low : (t : Tables) (m : Bool) (u : ℕ) → class_of t 0x34F ≡ 0 → (u == 0x34F) ≡ true → (if m then character_class t u else 0) ≡ 0
unfolding character_class
joiner_low t m u none joined =
    ap (λ (n : ℕ). if m then (if is_mark_character n then class_of t n else 0) else 0) (eqb-true u 0x34F joined)
    ∙ ap (λ (n : ℕ). if m then (if is_mark_character 0x34F then n else 0) else 0) none ∙ tested_twice m (is_mark_character 0x34F)

piece_low : (c : Normalizer) (x : Item) (u : ℕ) → class_of c.tables 0x34F ≡ 0 → IsLow (piece_of c x u)
unfolding piece_of
piece_low c x u none joined = joiner_low c.tables (is_mark (piece_of c x u)) u none joined

pieces_low : (c : Normalizer) (x : Item) (us : List ℕ) → class_of c.tables 0x34F ≡ 0 → AreLow (map (piece_of c x) us)
pieces_low c x [] none = tt
pieces_low c x (u ∷ us) none = (piece_low c x u none, pieces_low c x us none)

pieces_unjoined : (c : Normalizer) (x : Item) (us : List ℕ) → AreNoJoiners us → AreUnjoined (map (piece_of c x) us)
unfolding piece_of
pieces_unjoined c x [] h = tt
pieces_unjoined c x (u ∷ us) h = (h.0, pieces_unjoined c x us h.1)

pieces_many : (c : Normalizer) (x : Item) (us : List ℕ) → 0 < length us → 0 < length (map (piece_of c x) us)
pieces_many c x [] some = absurd (omega (arith, some))
pieces_many c x (u ∷ us) some = omega arith

unmarked_alone : (k : Normalizer) (u : ℕ) → KeepsMarks k → is_mark_character u ≡ false → (u == 0x34F) ≡ false
unmarked_alone k u h e = elim (cases_Bool (u == 0x34F)) [
  | inl at ↦ let is : is_mark_character u ≡ is_mark_character 0x34F = ap is_mark_character (eqb-true u 0x34F at) in let mark = h.joiner_is_mark in cc
  | inr off ↦ off
]

pieces_begin : (k : Normalizer) (x : Item) (us : List ℕ) → KeepsMarks k → BeginsUnmarked us → BeginsAlone (map (piece_of k x) us)
unfolding piece_of
pieces_begin k x [] h b = absurd b
pieces_begin k x (u ∷ us) h b = (mark_of_character k.tables u x ∙ b, unmarked_alone k u h b)

-- an expansion of an item that is no joiner ends with none
item_last : (k : Normalizer) (reach : Reach) (before : Bool) (x : Item) → KeepsMarks k → is_joiner x ≡ false → last_joined before (expanded_item k reach x) ≡ false
unfolding expanded_item
item_last k reach before x h e = by_found (expansion reach (has_character k) k.splits x.number) refl
  where
    by_found : (o : Option (List ℕ)) → expansion reach (has_character k) k.splits x.number ≡ o → last_joined before (items_for k x o) ≡ false
    by_found None f = ap (λ n. n == 0x34F) (whole_number k x) ∙ e
    by_found (Some us) f =
        let s = found_stands reach (has_character k) k.splits x.number us h.halves f in
        unjoined_last before (map (piece_of k x) us) (pieces_unjoined k x us (s.unjoined e)) (pieces_many k x us s.some)

item_low : (k : Normalizer) (reach : Reach) (x : Item) → KeepsMarks k → IsLow x → AreLow (expanded_item k reach x)
unfolding expanded_item
item_low k reach x h low = by_found (expansion reach (has_character k) k.splits x.number)
  where
    by_found : (o : Option (List ℕ)) → AreLow (items_for k x o)
    by_found None = (whole_low k x low, tt)
    by_found (Some us) = pieces_low k x us h.joiner_class

item_begins : (k : Normalizer) (reach : Reach) (x : Item) → KeepsMarks k → IsPlainly x → BeginsAlone (expanded_item k reach x)
unfolding expanded_item
item_begins k reach x h e = by_found (expansion reach (has_character k) k.splits x.number) refl
  where
    by_found : (o : Option (List ℕ)) → expansion reach (has_character k) k.splits x.number ≡ o → BeginsAlone (items_for k x o)
    by_found None f = (ap (λ n. is_mark (record x { unicode_props = n })) (whole_props k x) ∙ e.0, ap (λ n. n == 0x34F) (whole_number k x) ∙ unmarked_alone k x.number h e.1)
    by_found (Some us) f = pieces_begin k x us h ((found_stands reach (has_character k) k.splits x.number us h.halves f).begins e.1)

-- ---- items with selectors

pub selector_alone : (s : Item) → is_selector s ≡ true → is_joiner s ≡ false
selector_alone s e = elim (cases_Bool (is_joiner s)) [
  | inl at ↦ let is : is_selector s ≡ is_variation_selector_character 0x34F = ap is_variation_selector_character (eqb-true s.number 0x34F at) in let off : is_variation_selector_character 0x34F ≡ false = refl in cc
  | inr off ↦ off
]

selector_low : (b : Bool) (s : Item) → is_selector s ≡ true → IsLow (unjoined_selector b s)
selector_low b s e joined = let off = selector_alone s e in cc

-- the pending item, if there is one
abbrev pub pending : Option Item → List Item
pending None = []
pending (Some x) = x ∷ []

pending_low : (k : Normalizer) (o : Option Item) → AreLow (pending o) → AreLow (in_turn (pending_item k o)).items
pending_low k None h = tt
pending_low k (Some x) h = h

turn_last : (before : Bool) (rs ss : List Arrangement) → last_joined before (in_turn (rs ++ ss)).items ≡ last_joined (last_joined before (in_turn rs).items) (in_turn ss).items
turn_last before rs ss = ap (last_joined before) (turn_items rs ss) ∙ last_both before (in_turn rs).items (in_turn ss).items

turn_low : (rs ss : List Arrangement) → AreLow (in_turn rs).items → AreLow (in_turn ss).items → AreLow (in_turn (rs ++ ss)).items
turn_low rs ss h k = subst AreLow (sym (turn_items rs ss)) (low_both (in_turn rs).items (in_turn ss).items h k)

selection_last : (k : Normalizer) (before : Bool) (x s : Item) (o : Option ℕ) → KeepsMarks k → is_selector s ≡ true → k.variant_of x.number s.number ≡ o → last_joined before (in_turn (selection k x s o)).items ≡ false
selection_last k before x s None h e f = selector_alone s e
selection_last k before x s (Some g) h e f = elim (cases_Bool (is_joiner x)) [
  | inl at ↦ absurd (let none : None ≡ Some g = sym (ap (λ n. k.variant_of n s.number) (eqb-true x.number 0x34F at) ∙ h.joiner_stays s.number) ∙ f in cc)
  | inr off ↦ off
]

meets_last : (k : Normalizer) (before : Bool) (o : Option Item) (s : Item) → KeepsMarks k → is_selector s ≡ true → last_joined before (in_turn (meets_selector k o s)).items ≡ false
meets_last k before None s h e = selector_alone s e
meets_last k before (Some x) s h e = selection_last k before x s (k.variant_of x.number s.number) h e refl

selection_low : (k : Normalizer) (x s : Item) (o : Option ℕ) → IsLow x → is_selector s ≡ true → AreLow (in_turn (selection k x s o)).items
selection_low k x s None h e = (h, (selector_low (is_some k.unjoined_glyph) s e, tt))
selection_low k x s (Some g) h e = (h, tt)

meets_low : (k : Normalizer) (o : Option Item) (s : Item) → AreLow (pending o) → IsLow s → is_selector s ≡ true → AreLow (in_turn (meets_selector k o s)).items
meets_low k None s h low e = (low, tt)
meets_low k (Some x) s h low e = selection_low k x s (k.variant_of x.number s.number) h.0 e

selections_last : (k : Normalizer) (before : Bool) (o : Option Item) (xs : List Item) → KeepsMarks k → last_joined before (pending o ++ xs) ≡ false → last_joined before (in_turn (selections_after k o xs)).items ≡ false
selections_last k before None [] h e = e
selections_last k before (Some x) [] h e = e
selections_last k before o (x ∷ xs) h e = elim (cases_Bool (is_selector x)) [
  | inl found ↦
      ap (λ rs. last_joined before (in_turn rs).items) (cond-true _ _ _ found) ∙ turn_last before (meets_selector k o x) (selections_after k None xs)
      ∙ selections_last k (last_joined before (in_turn (meets_selector k o x)).items) None xs h (last_anyway (last_joined before (in_turn (meets_selector k o x)).items) (is_joiner x) xs (inl (meets_last k before o x h found)) rest)
  | inr lacks ↦ ap (λ rs. last_joined before (in_turn rs).items) (cond-false _ _ _ lacks) ∙ turn_last before (pending_item k o) (selections_after k (Some x) xs) ∙ selections_last k (last_joined before (in_turn (pending_item k o)).items) (Some x) xs h rest
]
  where
    rest : last_joined (is_joiner x) xs ≡ false
    rest = sym (last_both before (pending o) (x ∷ xs)) ∙ e

selections_low : (k : Normalizer) (o : Option Item) (xs : List Item) → AreLow (pending o) → AreLow xs → AreLow (in_turn (selections_after k o xs)).items
selections_low k o [] h low = pending_low k o h
selections_low k o (x ∷ xs) h low = elim (cases_Bool (is_selector x)) [
  | inl found ↦ subst (λ rs. AreLow (in_turn rs).items) (sym (cond-true _ _ _ found)) (turn_low (meets_selector k o x) (selections_after k None xs) (meets_low k o x h low.0 found) (selections_low k None xs tt low.1))
  | inr lacks ↦ subst (λ rs. AreLow (in_turn rs).items) (sym (cond-false _ _ _ lacks)) (turn_low (pending_item k o) (selections_after k (Some x) xs) (pending_low k o h) (selections_low k (Some x) xs (low.0, tt) low.1))
]

-- ---- groups

each_last : (k : Normalizer) (reach : Reach) (before : Bool) (xs : List Item) → KeepsMarks k → last_joined before xs ≡ false → last_joined before (in_turn (map (item_expansion k reach) xs)).items ≡ false
each_last k reach before [] h e = e
each_last k reach before (x ∷ xs) h e =
    let here = last_joined before (expanded_item k reach x) in
    last_both before (expanded_item k reach x) (in_turn (map (item_expansion k reach) xs)).items
    ∙ each_last k reach here xs h (last_anyway here (is_joiner x) xs (either (is_joiner x) refl) e)
  where
    either : (b : Bool) → is_joiner x ≡ b → (last_joined before (expanded_item k reach x) ≡ false) ⊎ (is_joiner x ≡ true)
    either true f = inr f
    either false f = inl (item_last k reach before x h f)

each_low : (k : Normalizer) (reach : Reach) (xs : List Item) → KeepsMarks k → AreLow xs → AreLow (in_turn (map (item_expansion k reach) xs)).items
each_low k reach [] h low = tt
each_low k reach (x ∷ xs) h low = low_both (expanded_item k reach x) (in_turn (map (item_expansion k reach) xs)).items (item_low k reach x h low.0) (each_low k reach xs h low.1)

with_marks_last : (k : Normalizer) (before : Bool) (x : Item) (marks : List Item) → KeepsMarks k → last_joined before (x ∷ marks) ≡ false → last_joined before (in_turn (expanded_with_marks k x marks)).items ≡ false
with_marks_last k before x marks h e =
    elim (list_any is_selector (x ∷ marks)) as (λ b. last_joined before (in_turn (if b then selections_after k (Some x) marks else map (item_expansion k (reach_with_marks k.mode)) (x ∷ marks))).items ≡ false) [
      | true ↦ selections_last k before (Some x) marks h e
      | false ↦ each_last k (reach_with_marks k.mode) before (x ∷ marks) h e
    ]

with_marks_low : (k : Normalizer) (x : Item) (marks : List Item) → KeepsMarks k → AreLow (x ∷ marks) → AreLow (in_turn (expanded_with_marks k x marks)).items
with_marks_low k x marks h low =
    elim (list_any is_selector (x ∷ marks)) as (λ b. AreLow (in_turn (if b then selections_after k (Some x) marks else map (item_expansion k (reach_with_marks k.mode)) (x ∷ marks))).items) [
      | true ↦ selections_low k (Some x) marks (low.0, tt) low.1
      | false ↦ each_low k (reach_with_marks k.mode) (x ∷ marks) h low
    ]

group_last : (k : Normalizer) (before : Bool) (x : Item) (marks : List Item) → KeepsMarks k → last_joined before (x ∷ marks) ≡ false → last_joined before (in_turn (expanded_group k x marks)).items ≡ false
group_last k before x [] h e = each_last k (reach_alone k.mode) before (x ∷ []) h e
group_last k before x (m ∷ marks) h e = with_marks_last k before x (m ∷ marks) h e

group_low : (k : Normalizer) (x : Item) (marks : List Item) → KeepsMarks k → AreLow (x ∷ marks) → AreLow (in_turn (expanded_group k x marks)).items
group_low k x [] h low = each_low k (reach_alone k.mode) (x ∷ []) h low
group_low k x (m ∷ marks) h low = with_marks_low k x (m ∷ marks) h low

groups_last : (k : Normalizer) (before : Bool) (x : Item) (marks xs : List Item) → KeepsMarks k → last_joined before (x ∷ (marks ++ xs)) ≡ false → last_joined before (in_turn (expanded_groups k x marks xs)).items ≡ false
groups_last k before x marks [] h e = group_last k before x marks h (ap (λ zs. last_joined before (x ∷ zs)) (sym (append-nil marks)) ∙ e)
groups_last k before x marks (y ∷ ys) h e = by_test (is_mark y) (λ (d : Bool). groups_last k d x (marks ++ y ∷ []) ys h) (λ (d : Bool). groups_last k d y [] ys h)
  where
    by_test : (b : Bool) → ((d : Bool) → last_joined d (x ∷ ((marks ++ y ∷ []) ++ ys)) ≡ false → last_joined d (in_turn (expanded_groups k x (marks ++ y ∷ []) ys)).items ≡ false) → ((d : Bool) → last_joined d (y ∷ ys) ≡ false → last_joined d (in_turn (expanded_groups k y [] ys)).items ≡ false)
        → last_joined before (in_turn (if b then expanded_groups k x (marks ++ y ∷ []) ys else expanded_group k x marks ++ expanded_groups k y [] ys)).items ≡ false
    by_test true longer next = longer before (ap (λ zs. last_joined before (x ∷ zs)) (append_assoc marks (y ∷ []) ys) ∙ e)
    by_test false longer next =
        turn_last before (expanded_group k x marks) (expanded_groups k y [] ys) ∙ next (last_joined before (in_turn (expanded_group k x marks)).items) (sym (last_both (is_joiner x) marks (y ∷ ys)) ∙ e)

groups_low : (k : Normalizer) (x : Item) (marks xs : List Item) → KeepsMarks k → AreLow (x ∷ marks) → AreLow xs → AreLow (in_turn (expanded_groups k x marks xs)).items
groups_low k x marks [] h low rest = group_low k x marks h low
groups_low k x marks (y ∷ ys) h low rest = by_test (is_mark y) (groups_low k x (marks ++ y ∷ []) ys h (low.0, low_both marks (y ∷ []) low.1 (rest.0, tt)) rest.1) (groups_low k y [] ys h (rest.0, tt) rest.1)
  where
    by_test : (b : Bool) → AreLow (in_turn (expanded_groups k x (marks ++ y ∷ []) ys)).items → AreLow (in_turn (expanded_groups k y [] ys)).items
        → AreLow (in_turn (if b then expanded_groups k x (marks ++ y ∷ []) ys else expanded_group k x marks ++ expanded_groups k y [] ys)).items
    by_test true longer next = longer
    by_test false longer next = turn_low (expanded_group k x marks) (expanded_groups k y [] ys) (group_low k x marks h low) next

pub expanded_last : (k : Normalizer) (xs : List Item) → KeepsMarks k → last_joined false xs ≡ false → last_joined false (expanded_list k xs).items ≡ false
expanded_last k [] h e = e
expanded_last k (x ∷ xs) h e = groups_last k false x [] xs h e

pub expanded_low : (k : Normalizer) (xs : List Item) → KeepsMarks k → AreLow xs → AreLow (expanded_list k xs).items
expanded_low k [] h low = tt
expanded_low k (x ∷ xs) h low = groups_low k x [] xs h (low.0, tt) low.1

-- ---- the first item

begins_more : (xs ys : List Item) → BeginsAlone xs → BeginsAlone (xs ++ ys)
begins_more [] ys h = absurd h
begins_more (x ∷ xs) ys h = h

-- the first of some arrangements begins with an item of its own
abbrev FirstBegins : List Arrangement → Type 0
FirstBegins [] = ⊥
FirstBegins (a ∷ rest) = BeginsAlone a.items

first_begins : (ranges : List Arrangement) → FirstBegins ranges → BeginsAlone (in_turn ranges).items
first_begins [] h = absurd h
first_begins (a ∷ rest) h = begins_more a.items (in_turn rest).items h

first_of_both : (first second : List Arrangement) → FirstBegins first → FirstBegins (first ++ second)
first_of_both [] second h = absurd h
first_of_both (a ∷ rest) second h = h

selections_begin : (k : Normalizer) (x m : Item) (marks : List Item) → BeginsAlone (x ∷ []) → FirstBegins (selections_after k (Some x) (m ∷ marks))
selections_begin k x m marks e = elim (is_selector m) as (λ b. FirstBegins (if b then selection k x m (k.variant_of x.number m.number) ++ selections_after k None marks else (unexpanded_item k x ∷ []) ++ selections_after k (Some m) marks)) [
  | true ↦ by_variant (k.variant_of x.number m.number)
  | false ↦ e
]
  where
    by_variant : (o : Option ℕ) → FirstBegins (selection k x m o ++ selections_after k None marks)
    by_variant None = e
    by_variant (Some g) = e

group_begins : (k : Normalizer) (x : Item) (marks : List Item) → KeepsMarks k → IsPlainly x → FirstBegins (expanded_group k x marks)
group_begins k x [] h e = item_begins k (reach_alone k.mode) x h e
group_begins k x (m ∷ marks) h e = elim (list_any is_selector (x ∷ m ∷ marks)) as (λ b. FirstBegins (if b then selections_after k (Some x) (m ∷ marks) else map (item_expansion k (reach_with_marks k.mode)) (x ∷ m ∷ marks))) [
  | true ↦ selections_begin k x m marks (e.0, unmarked_alone k x.number h e.1)
  | false ↦ item_begins k (reach_with_marks k.mode) x h e
]

groups_begin : (k : Normalizer) (x : Item) (marks xs : List Item) → KeepsMarks k → IsPlainly x → FirstBegins (expanded_groups k x marks xs)
groups_begin k x marks [] h e = group_begins k x marks h e
groups_begin k x marks (y ∷ ys) h e = by_test (is_mark y) (groups_begin k x (marks ++ y ∷ []) ys h e)
  where
    by_test : (b : Bool) → FirstBegins (expanded_groups k x (marks ++ y ∷ []) ys) → FirstBegins (if b then expanded_groups k x (marks ++ y ∷ []) ys else expanded_group k x marks ++ expanded_groups k y [] ys)
    by_test true longer = longer
    by_test false longer = first_of_both (expanded_group k x marks) (expanded_groups k y [] ys) (group_begins k x marks h e)

-- a text that begins with no mark does so once it is expanded
pub expanded_begins : (k : Normalizer) (x : Item) (xs : List Item) → KeepsMarks k → IsPlainly x → BeginsAlone (expanded_list k (x ∷ xs)).items
expanded_begins k x xs h e = first_begins (expanded_groups k x [] xs) (groups_begin k x [] xs h e)

pub begins_alone : (k : Normalizer) (x : Item) (xs : List Item) → KeepsMarks k → IsPlainly x → BeginsAlone (x ∷ xs)
begins_alone k x xs h e = (e.0, unmarked_alone k x.number h e.1)

-- ---- orders

none_joined : (xs : List Item) → AreUnjoined xs → list_any is_joiner xs ≡ false
none_joined [] h = refl
none_joined (x ∷ xs) h = ap (λ b. b || list_any is_joiner xs) h.0 ∙ none_joined xs h.1

joined_none : (xs : List Item) → list_any is_joiner xs ≡ false → AreUnjoined xs
joined_none [] h = tt
joined_none (x ∷ xs) h = by_test (is_joiner x) refl h (joined_none xs)
  where
    by_test : (b : Bool) → is_joiner x ≡ b → (b || list_any is_joiner xs) ≡ false → (list_any is_joiner xs ≡ false → AreUnjoined xs) → AreUnjoined (x ∷ xs)
    by_test true e f next = cc
    by_test false e f next = (e, next f)

sorted_last : (reorders : List Item → Arrangement) (before : Bool) (run : List Item) → OrderEndsUnjoined reorders → AreUnjoined run → 0 < length run → last_joined before (sorted_run reorders run).items ≡ false
sorted_last reorders before run ends h some =
    let sorted = run_order mark_class run in
    let moved = in_class_order run in
    let many = length_permutation run sorted moved in
    ends before sorted (joined_none sorted (sym (list_any-IsPermutation is_joiner run sorted moved) ∙ none_joined run h)) (omega (arith, many, some))

run_last : (reorders : List Item → Arrangement) (before : Bool) (run : List Item) → OrderEndsUnjoined reorders → AreUnjoined run → 0 < length run → last_joined before (arranged_run reorders run).items ≡ false
unfolding arranged_run
run_last reorders before [] ends h some = absurd (omega (arith, some))
run_last reorders before (x ∷ xs) ends h some =
    elim (nat_le (length (x ∷ xs)) MAX_COMBINING_MARKS) as (λ b. last_joined before (if b then sorted_run reorders (x ∷ xs) else eventless_arrangement (x ∷ xs)).items ≡ false)
    [ true ↦ sorted_last reorders before (x ∷ xs) ends h some | false ↦ unjoined_last before (x ∷ xs) h some ]

no_run : (reorders : List Item → Arrangement) → (arranged_run reorders []).items ≡ []
unfolding arranged_run
no_run reorders = refl

unjoined_last_of : (run : List Item) (x : Item) → AreUnjoined run → is_joiner x ≡ false → AreUnjoined (run ++ x ∷ [])
unjoined_last_of [] x h e = (e, tt)
unjoined_last_of (r ∷ run) x h e = (h.0, unjoined_last_of run x h.1 e)

classed_alone : (x : Item) → IsLow x → (mark_class x == 0) ≡ false → is_joiner x ≡ false
classed_alone x low e = elim (cases_Bool (is_joiner x)) [
  | inl at ↦ let none : (mark_class x == 0) ≡ true = ap (λ n. n == 0) (low at) in cc
  | inr off ↦ off
]

runs_last : (reorders : List Item → Arrangement) (before : Bool) (run xs : List Item) → OrderEndsUnjoined reorders → AreUnjoined run → AreLow xs → last_joined before (run ++ xs) ≡ false → last_joined before (in_turn (arranged_runs reorders run xs)).items ≡ false
runs_last reorders before [] [] ends h low e = ap (λ xs. last_joined before (xs ++ [])) (no_run reorders) ∙ e
runs_last reorders before (r ∷ run) [] ends h low e = last_both before (arranged_run reorders (r ∷ run)).items [] ∙ run_last reorders before (r ∷ run) ends h (omega arith)
runs_last reorders before run (x ∷ xs) ends h low e =
    elim (cases_Bool (mark_class x == 0)) [
      | inl starts ↦
          ap (λ rs. last_joined before (in_turn rs).items) (cond-true _ _ _ starts) ∙ last_both before (arranged_run reorders run).items (x ∷ (in_turn (arranged_runs reorders [] xs)).items)
          ∙ runs_last reorders (is_joiner x) [] xs ends tt low.1 (sym (last_both before run (x ∷ xs)) ∙ e)
      | inr classed ↦
          ap (λ rs. last_joined before (in_turn rs).items) (cond-false _ _ _ classed)
          ∙ runs_last reorders before (run ++ x ∷ []) xs ends (unjoined_last_of run x h (classed_alone x low.0 classed)) low.1 (ap (last_joined before) (append_assoc run (x ∷ []) xs) ∙ e)
    ]

-- a text that ends with no joiner does so once it is expanded and ordered
pub ordered_ends : (b : Bool) (k : Normalizer) (xs : List Item) → KeepsMarks k → OrderEndsUnjoined k.reorders → AreLow xs → last_joined false xs ≡ false → EndsUnjoined (ordering_if b k (expanded_list k xs).items).items
ordered_ends true k xs h ends low e = let ys = (expanded_list k xs).items in ends_unjoined (ordered_list k.reorders ys).items (runs_last k.reorders false [] ys ends tt (expanded_low k xs h low) (expanded_last k xs h e))
ordered_ends false k xs h ends low e = ends_unjoined (expanded_list k xs).items (expanded_last k xs h e)

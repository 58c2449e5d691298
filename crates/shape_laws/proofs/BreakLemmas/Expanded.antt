-- The first round of normalizing two texts, one after the other.
use Rattle.std.proofs.Common.{ℕ, zero, suc, ◌≡◌, ◌<◌, ◌+◌, ◌==◌, ◌||◌, inl, inr, Bool, true, false, if◌then◌else◌, List, [], ◌∷◌, ◌++◌, length, map, Option, None, Some, append_assoc, arith, refl, sym, ap, subst, ◌∙◌}
use Rattle.std.specs.Prelude.{is_some}
use Rattle.std.specs.List.{list_any}
use Rattle.std.proofs.lemmas.Bool.{cases_Bool, cond-true, cond-false}
use Rattle.std.proofs.lemmas.List.{length-append, length-map}
use Rattle.buffer_unicode_tables.specs.Expansion.{Splits, with_second_piece}
use Rattle.buffer_glyphs.specs.Items.{Item}
use Rattle.buffer_glyphs.specs.Rewriting.{Arrangement, beside, in_turn, replacement}
use Rattle.buffer_parts.specs.Breaks.Fragments.{AreGiven}
use Rattle.buffer_properties.specs.Characters.{is_mark, is_selector, unjoined_selector, with_glyph}
use Rattle.buffer_properties.specs.Expanding.{expanded_group, expanded_groups, expanded_item, expanded_list, expanded_with_marks, item_expansion, items_for, meets_selector, pending_item, piece_of, selection, selections_after, space_glyph, unexpanded_item, whole_item, with_found_glyph, with_glyph_of_space, with_own_glyph}
use Rattle.buffer_properties.specs.Normalizer.{Normalizer, has_character, reach_alone, reach_with_marks}
use Rattle.buffer_properties.specs.SupportedExpansion.{alone, by_supported, expansion, in_pieces, supported_expansion}
use Rattle.buffer_properties.specs.declared.normal_mode.Reach.{Reach}
use Rattle.buffer_properties.specs.declared.normal_mode.Reach.TheVariants.{Least, Greatest}
use Rattle.buffer_properties.proofs.Kept.{alone_is, mapped_is, preferred_is}
use Rattle.shape_normalize.proofs.Lemmas.Chain.{in_turn_both, none_beside}
use Rattle.shape_laws.specs.Breaks.Rewrites.{IsRewrite}
use Rattle.shape_laws.proofs.BreakLemmas.Rewrites.{AreRewrites, eventless_rewrite, in_turn_rewrite, replacement_rewrite, rewrites_as, rewrites_both, rewrites_first, rewrites_one}
use Rattle.shape_parts.proofs.Normalized.{item_some, found_some, pieces_some, expansion_some, some_pieces, supported_some}

-- ---- apart

groups_apart : (c : Normalizer) (x : Item) (marks zs : List Item) (y : Item) (ys : List Item) → is_mark y ≡ false → expanded_groups c x marks (zs ++ y ∷ ys) ≡ expanded_groups c x marks zs ++ expanded_groups c y [] ys
groups_apart c x marks [] y ys e = ap (λ b. if b then expanded_groups c x (marks ++ y ∷ []) ys else expanded_group c x marks ++ expanded_groups c y [] ys) e
groups_apart c x marks (z ∷ zs) y ys e = by_test (is_mark z) (groups_apart c x (marks ++ z ∷ []) zs y ys e) (groups_apart c z [] zs y ys e)
  where
    by_test : (b : Bool) → expanded_groups c x (marks ++ z ∷ []) (zs ++ y ∷ ys) ≡ expanded_groups c x (marks ++ z ∷ []) zs ++ expanded_groups c y [] ys → expanded_groups c z [] (zs ++ y ∷ ys) ≡ expanded_groups c z [] zs ++ expanded_groups c y [] ys
        → (if b then expanded_groups c x (marks ++ z ∷ []) (zs ++ y ∷ ys) else expanded_group c x marks ++ expanded_groups c z [] (zs ++ y ∷ ys))
        ≡ (if b then expanded_groups c x (marks ++ z ∷ []) zs else expanded_group c x marks ++ expanded_groups c z [] zs) ++ expanded_groups c y [] ys
    by_test true longer next = longer
    by_test false longer next = ap (λ gs. expanded_group c x marks ++ gs) next ∙ sym (append_assoc (expanded_group c x marks) (expanded_groups c z [] zs) (expanded_groups c y [] ys))

-- two texts of which the second doesn't begin with a mark expand each by itself
pub expanded_apart : (c : Normalizer) (xs : List Item) (y : Item) (ys : List Item) → is_mark y ≡ false → expanded_list c (xs ++ y ∷ ys) ≡ beside (expanded_list c xs) (expanded_list c (y ∷ ys))
expanded_apart c [] y ys e = sym (none_beside (expanded_list c (y ∷ ys)))
expanded_apart c (x ∷ xs) y ys e = ap in_turn (groups_apart c x [] xs y ys e) ∙ sym (in_turn_both (expanded_groups c x [] xs) (expanded_groups c y [] ys))

-- ---- ligature numbers

-- an item has no ligature number
abbrev IsGiven : Item → Type 0
IsGiven x = AreGiven 0 (x ∷ [])

pieces_given : (c : Normalizer) (x : Item) (us : List ℕ) → IsGiven x → AreGiven 0 (map (piece_of c x) us)
unfolding piece_of
pieces_given c x [] h = tt
pieces_given c x (u ∷ us) h = (h.0, pieces_given c x us h)

whole_given : (c : Normalizer) (x : Item) → IsGiven x → IsGiven (whole_item c x)
whole_given c x h = by_glyph (c.glyph_of x.number)
  where
    by_space : (o : Option ℕ) → IsGiven (with_glyph_of_space c x o)
    by_space None = h
    by_space (Some g) = h

    by_glyph : (o : Option ℕ) → IsGiven (with_found_glyph c x o)
    by_glyph None = by_space (space_glyph c x)
    by_glyph (Some g) = h

item_given : (c : Normalizer) (reach : Reach) (x : Item) → IsGiven x → AreGiven 0 (expanded_item c reach x)
unfolding expanded_item
item_given c reach x h = by_found (expansion reach (has_character c) c.splits x.number)
  where
    by_found : (o : Option (List ℕ)) → AreGiven 0 (items_for c x o)
    by_found None = whole_given c x h
    by_found (Some us) = pieces_given c x us h

-- ---- rewrites

expansion_rewrite : (c : Normalizer) (reach : Reach) (x : Item) → IsGiven x → IsRewrite 1 (item_expansion c reach x)
expansion_rewrite c reach x h = replacement_rewrite 1 (expanded_item c reach x) (omega arith) (item_given c reach x h)

unexpanded_rewrite : (c : Normalizer) (x : Item) → IsGiven x → IsRewrite 1 (unexpanded_item c x)
unexpanded_rewrite c x h = eventless_rewrite (with_own_glyph c x ∷ []) h

-- how many items are pending
abbrev pending : Option Item → ℕ
pending None = 0
pending (Some x) = 1

abbrev IsGivenIf : Option Item → Type 0
IsGivenIf None = Unit {0}
IsGivenIf (Some x) = IsGiven x

pending_rewrites : (c : Normalizer) (before : Option Item) → IsGivenIf before → AreRewrites (pending before) (pending_item c before)
pending_rewrites c None h = refl
pending_rewrites c (Some x) h = rewrites_one 1 (unexpanded_item c x) (unexpanded_rewrite c x h)

selection_rewrites : (c : Normalizer) (x s : Item) (o : Option ℕ) → IsGiven x → IsGiven s → AreRewrites 2 (selection c x s o)
selection_rewrites c x s None h k =
    let t = unjoined_selector (is_some c.unjoined_glyph) s in
    rewrites_first 1 1 (unexpanded_item c x) (unexpanded_item c t ∷ []) (unexpanded_rewrite c x h) (rewrites_one 1 (unexpanded_item c t) (unexpanded_rewrite c t k))
selection_rewrites c x s (Some g) h k = rewrites_one 2 (replacement 2 (with_glyph g x ∷ [])) (replacement_rewrite 2 (with_glyph g x ∷ []) (omega arith) h)

meets_rewrites : (c : Normalizer) (before : Option Item) (s : Item) → IsGivenIf before → IsGiven s → AreRewrites (pending before + 1) (meets_selector c before s)
meets_rewrites c None s h k = rewrites_one 1 (unexpanded_item c s) (unexpanded_rewrite c s k)
meets_rewrites c (Some x) s h k = selection_rewrites c x s (c.variant_of x.number s.number) h k

selections_rewrite : (c : Normalizer) (before : Option Item) (xs : List Item) → IsGivenIf before → AreGiven 0 xs → AreRewrites (pending before + length xs) (selections_after c before xs)
selections_rewrite c before [] h k = rewrites_as (pending before) (pending before + 0) (pending_item c before) (omega arith) (pending_rewrites c before h)
selections_rewrite c before (x ∷ xs) h k = by_test (is_selector x) (selections_rewrite c None xs tt k.1) (selections_rewrite c (Some x) xs (k.0, tt) k.1)
  where
    by_test : (b : Bool) → AreRewrites (0 + length xs) (selections_after c None xs) → AreRewrites (1 + length xs) (selections_after c (Some x) xs)
        → AreRewrites (pending before + length (x ∷ xs)) (if b then meets_selector c before x ++ selections_after c None xs else pending_item c before ++ selections_after c (Some x) xs)
    by_test true none some = rewrites_as (pending before + 1 + (0 + length xs)) (pending before + length (x ∷ xs)) (meets_selector c before x ++ selections_after c None xs) (omega arith) (rewrites_both (pending before + 1) (0 + length xs) (meets_selector c before x) (selections_after c None xs) (meets_rewrites c before x h (k.0, tt)) none)
    by_test false none some = rewrites_as (pending before + (1 + length xs)) (pending before + length (x ∷ xs)) (pending_item c before ++ selections_after c (Some x) xs) (omega arith) (rewrites_both (pending before) (1 + length xs) (pending_item c before) (selections_after c (Some x) xs) (pending_rewrites c before h) some)

each_rewrites : (c : Normalizer) (reach : Reach) (xs : List Item) → AreGiven 0 xs → AreRewrites (length xs) (map (item_expansion c reach) xs)
each_rewrites c reach [] h = refl
each_rewrites c reach (x ∷ xs) h = rewrites_as (1 + length xs) (length (x ∷ xs)) (map (item_expansion c reach) (x ∷ xs)) (omega arith) (rewrites_first 1 (length xs) (item_expansion c reach x) (map (item_expansion c reach) xs) (expansion_rewrite c reach x (h.0, tt)) (each_rewrites c reach xs h.1))

marks_rewrite : (c : Normalizer) (x : Item) (marks : List Item) → AreGiven 0 (x ∷ marks) → AreRewrites (1 + length marks) (expanded_with_marks c x marks)
marks_rewrite c x marks h = by_test (list_any is_selector (x ∷ marks))
  where
    by_test : (b : Bool) → AreRewrites (1 + length marks) (if b then selections_after c (Some x) marks else map (item_expansion c (reach_with_marks c.mode)) (x ∷ marks))
    by_test true = selections_rewrite c (Some x) marks (h.0, tt) h.1
    by_test false = rewrites_as (length (x ∷ marks)) (1 + length marks) (map (item_expansion c (reach_with_marks c.mode)) (x ∷ marks)) (omega arith) (each_rewrites c (reach_with_marks c.mode) (x ∷ marks) h)

group_rewrites : (c : Normalizer) (x : Item) (marks : List Item) → AreGiven 0 (x ∷ marks) → AreRewrites (1 + length marks) (expanded_group c x marks)
group_rewrites c x [] h = rewrites_one 1 (item_expansion c (reach_alone c.mode) x) (expansion_rewrite c (reach_alone c.mode) x (h.0, tt))
group_rewrites c x (m ∷ marks) h = marks_rewrite c x (m ∷ marks) h

last_given : (marks : List Item) (y : Item) → AreGiven 0 marks → IsGiven y → AreGiven 0 (marks ++ y ∷ [])
last_given [] y h k = k
last_given (m ∷ marks) y h k = (h.0, last_given marks y h.1 k)

groups_rewrite : (c : Normalizer) (x : Item) (marks xs : List Item) → AreGiven 0 (x ∷ marks) → AreGiven 0 xs → AreRewrites (1 + length marks + length xs) (expanded_groups c x marks xs)
groups_rewrite c x marks [] h k = rewrites_as (1 + length marks) (1 + length marks + 0) (expanded_group c x marks) (omega arith) (group_rewrites c x marks h)
groups_rewrite c x marks (y ∷ ys) h k = by_test (is_mark y) (groups_rewrite c x (marks ++ y ∷ []) ys (h.0, last_given marks y h.1 (k.0, tt)) k.1) (groups_rewrite c y [] ys (k.0, tt) k.1)
  where
    by_test : (b : Bool) → AreRewrites (1 + length (marks ++ y ∷ []) + length ys) (expanded_groups c x (marks ++ y ∷ []) ys) → AreRewrites (1 + 0 + length ys) (expanded_groups c y [] ys)
        → AreRewrites (1 + length marks + length (y ∷ ys)) (if b then expanded_groups c x (marks ++ y ∷ []) ys else expanded_group c x marks ++ expanded_groups c y [] ys)
    by_test true longer next =
        let e = length-append marks (y ∷ []) in
        rewrites_as (1 + length (marks ++ y ∷ []) + length ys) (1 + length marks + length (y ∷ ys)) (expanded_groups c x (marks ++ y ∷ []) ys) (omega (arith, e)) longer
    by_test false longer next =
        rewrites_as (1 + length marks + (1 + 0 + length ys)) (1 + length marks + length (y ∷ ys)) (expanded_group c x marks ++ expanded_groups c y [] ys) (omega arith)
        (rewrites_both (1 + length marks) (1 + 0 + length ys) (expanded_group c x marks) (expanded_groups c y [] ys) (group_rewrites c x marks h) next)

pub expanded_rewrite : (c : Normalizer) (xs : List Item) → AreGiven 0 xs → IsRewrite (length xs) (expanded_list c xs)
expanded_rewrite c [] h = eventless_rewrite [] tt
expanded_rewrite c (x ∷ xs) h = in_turn_rewrite (length (x ∷ xs)) (expanded_groups c x [] xs) (rewrites_as (1 + 0 + length xs) (length (x ∷ xs)) (expanded_groups c x [] xs) (omega arith) (groups_rewrite c x [] xs (h.0, tt) h.1))

-- ---- an expansion has a character

-- the first of some arrangements has an item
abbrev FirstHasItem : List Arrangement → Type 0
FirstHasItem [] = ⊥
FirstHasItem (a ∷ rest) = 0 < length a.items

first_of_both : (first second : List Arrangement) → FirstHasItem first → FirstHasItem (first ++ second)
first_of_both [] second h = absurd h
first_of_both (a ∷ rest) second h = h

first_has : (ranges : List Arrangement) → FirstHasItem ranges → 0 < length (in_turn ranges).items
first_has [] h = absurd h
first_has (a ∷ rest) h = let many = length-append a.items (in_turn rest).items in omega (arith, many, h)

selections_have : (c : Normalizer) (x m : Item) (marks : List Item) → FirstHasItem (selections_after c (Some x) (m ∷ marks))
selections_have c x m marks = elim (is_selector m) as (λ b. FirstHasItem (if b then selection c x m (c.variant_of x.number m.number) ++ selections_after c None marks else (unexpanded_item c x ∷ []) ++ selections_after c (Some m) marks)) [
  | true ↦ by_variant (c.variant_of x.number m.number)
  | false ↦ omega arith
]
  where
    by_variant : (o : Option ℕ) → FirstHasItem (selection c x m o ++ selections_after c None marks)
    by_variant None = omega arith
    by_variant (Some g) = omega arith

group_has : (c : Normalizer) (x : Item) (marks : List Item) → FirstHasItem (expanded_group c x marks)
group_has c x [] = item_some c (reach_alone c.mode) x
group_has c x (m ∷ marks) = elim (list_any is_selector (x ∷ m ∷ marks)) as (λ b. FirstHasItem (if b then selections_after c (Some x) (m ∷ marks) else map (item_expansion c (reach_with_marks c.mode)) (x ∷ m ∷ marks))) [
  | true ↦ selections_have c x m marks
  | false ↦ item_some c (reach_with_marks c.mode) x
]

groups_have : (c : Normalizer) (x : Item) (marks xs : List Item) → FirstHasItem (expanded_groups c x marks xs)
groups_have c x marks [] = group_has c x marks
groups_have c x marks (y ∷ ys) = by_test (is_mark y) (groups_have c x (marks ++ y ∷ []) ys)
  where
    by_test : (b : Bool) → FirstHasItem (expanded_groups c x (marks ++ y ∷ []) ys) → FirstHasItem (if b then expanded_groups c x (marks ++ y ∷ []) ys else expanded_group c x marks ++ expanded_groups c y [] ys)
    by_test true longer = longer
    by_test false longer = first_of_both (expanded_group c x marks) (expanded_groups c y [] ys) (group_has c x marks)

pub expanded_some : (c : Normalizer) (xs : List Item) → 0 < length xs → 0 < length (expanded_list c xs).items
expanded_some c [] some = absurd (omega (arith, some))
expanded_some c (x ∷ xs) some = first_has (expanded_groups c x [] xs) (groups_have c x [] xs)

-- The first round reads no glyph of an item, so it may be given the font's glyph before.
use Rattle.std.proofs.Common.{ℕ, ◌≡◌, ◌||◌, List, [], ◌∷◌, ◌++◌, Option, Some, None, map, refl, sym, ap, ap₂, ◌∙◌}
use Rattle.std.specs.Prelude.{option_map, if◌then◌else◌}
use Rattle.std.specs.List.{list_any}
use Rattle.std.proofs.lemmas.List.{map-append}
use Rattle.buffer_glyphs.specs.Items.{Item}
use Rattle.buffer_glyphs.specs.Rewriting.{in_turn, replacement}
use Rattle.buffer_properties.specs.Characters.{is_mark, is_selector}
use Rattle.buffer_properties.specs.Expanding.{expanded_group, expanded_groups, expanded_item, expanded_list, item_expansion, items_for, meets_selector, pending_item, piece_of, selection, selections_after, space_glyph, with_found_glyph, with_glyph_of_space, with_own_glyph}
use Rattle.buffer_properties.specs.Normalizer.{Normalizer, has_character, reach_with_marks}
use Rattle.buffer_properties.specs.SupportedExpansion.{expansion}
use Rattle.buffer_properties.specs.declared.normal_mode.Reach.{Reach}

space_same : (c : Normalizer) (x : Item) (o : Option ℕ) → with_glyph_of_space c (with_own_glyph c x) o ≡ with_glyph_of_space c x o
space_same c x None = refl
space_same c x (Some g) = refl

found_same : (c : Normalizer) (x : Item) (o : Option ℕ) → with_found_glyph c (with_own_glyph c x) o ≡ with_found_glyph c x o
found_same c x None = space_same c x (space_glyph c x)
found_same c x (Some g) = refl

pieces_same : (c : Normalizer) (x : Item) (us : List ℕ) → map (piece_of c (with_own_glyph c x)) us ≡ map (piece_of c x) us
unfolding piece_of
pieces_same c x [] = refl
pieces_same c x (u ∷ us) = ap (λ ys. piece_of c x u ∷ ys) (pieces_same c x us)

items_same : (c : Normalizer) (x : Item) (o : Option (List ℕ)) → items_for c (with_own_glyph c x) o ≡ items_for c x o
items_same c x None = ap (λ y. y ∷ []) (found_same c x (c.glyph_of x.number))
items_same c x (Some us) = pieces_same c x us

expansion_same : (c : Normalizer) (reach : Reach) (x : Item) → item_expansion c reach (with_own_glyph c x) ≡ item_expansion c reach x
unfolding expanded_item
expansion_same c reach x = ap (replacement 1) (items_same c x (expansion reach (has_character c) c.splits x.number))

expansions_same : (c : Normalizer) (reach : Reach) (xs : List Item) → map (item_expansion c reach) (map (with_own_glyph c) xs) ≡ map (item_expansion c reach) xs
expansions_same c reach [] = refl
expansions_same c reach (x ∷ xs) = ap₂ (λ a b. a ∷ b) (expansion_same c reach x) (expansions_same c reach xs)

-- ---- selectors

any_same : (c : Normalizer) (xs : List Item) → list_any is_selector (map (with_own_glyph c) xs) ≡ list_any is_selector xs
any_same c [] = refl
any_same c (x ∷ xs) = ap (λ b. is_selector x || b) (any_same c xs)

pending_same : (c : Normalizer) (before : Option Item) → pending_item c (option_map (with_own_glyph c) before) ≡ pending_item c before
pending_same c None = refl
pending_same c (Some x) = refl

selection_same : (c : Normalizer) (x s : Item) (o : Option ℕ) → selection c (with_own_glyph c x) (with_own_glyph c s) o ≡ selection c x s o
selection_same c x s None = refl
selection_same c x s (Some g) = refl

meets_same : (c : Normalizer) (before : Option Item) (s : Item) → meets_selector c (option_map (with_own_glyph c) before) (with_own_glyph c s) ≡ meets_selector c before s
meets_same c None s = refl
meets_same c (Some x) s = selection_same c x s (c.variant_of x.number s.number)

selections_same : (c : Normalizer) (before : Option Item) (xs : List Item) → selections_after c (option_map (with_own_glyph c) before) (map (with_own_glyph c) xs) ≡ selections_after c before xs
selections_same c before [] = pending_same c before
selections_same c before (x ∷ xs) =
    ap₂ (λ a b. if is_selector x then a else b) (ap₂ (λ a b. a ++ b) (meets_same c before x) (selections_same c None xs)) (ap₂ (λ a b. a ++ b) (pending_same c before) (selections_same c (Some x) xs))

-- ---- groups

group_same : (c : Normalizer) (x : Item) (marks : List Item) → expanded_group c (with_own_glyph c x) (map (with_own_glyph c) marks) ≡ expanded_group c x marks
group_same c x [] = ap (λ a. a ∷ []) (expansion_same c _ x)
group_same c x (m ∷ marks) =
    let f : Item → Item = with_own_glyph c in
    ap (λ t. if t then selections_after c (Some (f x)) (map f (m ∷ marks)) else map (item_expansion c (reach_with_marks c.mode)) (map f (x ∷ m ∷ marks))) (any_same c (x ∷ m ∷ marks))
    ∙ ap₂ (λ a b. if list_any is_selector (x ∷ m ∷ marks) then a else b) (selections_same c (Some x) (m ∷ marks)) (expansions_same c (reach_with_marks c.mode) (x ∷ m ∷ marks))

groups_same : (c : Normalizer) (x : Item) (marks ys : List Item) → expanded_groups c (with_own_glyph c x) (map (with_own_glyph c) marks) (map (with_own_glyph c) ys) ≡ expanded_groups c x marks ys
groups_same c x marks [] = group_same c x marks
groups_same c x marks (y ∷ ys) =
    let f : Item → Item = with_own_glyph c in
    ap₂ (λ a b. if is_mark y then a else b)
    (ap (λ ms. expanded_groups c (f x) ms (map f ys)) (sym (map-append f marks (y ∷ []))) ∙ groups_same c x (marks ++ y ∷ []) ys)
    (ap₂ (λ a b. a ++ b) (group_same c x marks) (groups_same c y [] ys))

-- items with the font's glyphs expand as without
pub own_expands : (c : Normalizer) (xs : List Item) → expanded_list c (map (with_own_glyph c) xs) ≡ expanded_list c xs
own_expands c [] = refl
own_expands c (x ∷ xs) = ap in_turn (groups_same c x [] xs)

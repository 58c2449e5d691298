-- The glyph of characters that the font lacks.
use Rattle.std.proofs.Common.{◌≡◌, ℕ, ◌&&◌, if◌then◌else◌, Bool, true, List, [], ◌∷◌, ◌++◌, map, Option, Some, None, is_some, refl, ap, ◌∙◌}
use Rattle.std.specs.List.{list_all, list_any}
use Rattle.std.proofs.lemmas.Bool.{and_parts}
use Rattle.buffer_glyphs.specs.Items.{Item}
use Rattle.buffer_glyphs.specs.Rewriting.{in_turn, replacement}
use Rattle.buffer_properties.specs.Characters.{is_mark, is_selector}
use Rattle.buffer_properties.specs.Expanding.{expanded_group, expanded_groups, expanded_item, expanded_list, item_expansion, items_for, meets_selector, pending_item, piece_of, selection, selections_after, with_found_glyph}
use Rattle.buffer_properties.specs.NormalLaws.{NotFoundIsOfMissing, with_not_found}
use Rattle.buffer_properties.specs.Normalizer.{Normalizer, has_character, reach_alone, reach_with_marks}
use Rattle.buffer_properties.specs.SupportedExpansion.{Reach, expansion}

module _ (c : Normalizer) (glyph : ℕ) where
  abbrev other : Normalizer
  other = with_not_found glyph c

  abbrev has_all : List Item → Bool
  has_all xs = list_all (λ x. has_character c x.number) xs

  -- ---- selectors

  selection_same : (x s : Item) (o : Option ℕ) → selection other x s o ≡ selection c x s o
  selection_same x s None = refl
  selection_same x s (Some g) = refl

  meets_same : (before : Option Item) (s : Item) → meets_selector other before s ≡ meets_selector c before s
  meets_same None s = refl
  meets_same (Some x) s = selection_same x s (c.variant_of x.number s.number)

  pending_same : (before : Option Item) → pending_item other before ≡ pending_item c before
  pending_same None = refl
  pending_same (Some x) = refl

  selections_same : (before : Option Item) (xs : List Item) → selections_after other before xs ≡ selections_after c before xs
  selections_same before [] = pending_same before
  selections_same before (x ∷ xs) =
      ap (λ m. if is_selector x then m ++ selections_after other None xs else pending_item other before ++ selections_after other (Some x) xs) (meets_same before x)
      ∙ ap (λ m. if is_selector x then meets_selector c before x ++ m else pending_item other before ++ selections_after other (Some x) xs) (selections_same None xs)
      ∙ ap (λ m. if is_selector x then meets_selector c before x ++ selections_after c None xs else m ++ selections_after other (Some x) xs) (pending_same before)
      ∙ ap (λ m. if is_selector x then meets_selector c before x ++ selections_after c None xs else pending_item c before ++ m) (selections_same (Some x) xs)

  -- ---- items

  whole_same : (x : Item) (o : Option ℕ) → is_some o ≡ true → with_found_glyph other x o ≡ with_found_glyph c x o
  whole_same x None h = cc
  whole_same x (Some g) h = refl

  items_same : (x : Item) (o : Option (List ℕ)) → has_character c x.number ≡ true → items_for other x o ≡ items_for c x o
  unfolding piece_of
  items_same x None h = ap (λ y. y ∷ []) (whole_same x (c.glyph_of x.number) h)
  items_same x (Some us) h = refl

  item_same : (reach : Reach) (x : Item) → has_character c x.number ≡ true → item_expansion other reach x ≡ item_expansion c reach x
  unfolding expanded_item
  item_same reach x h = ap (replacement 1) (items_same x (expansion reach (has_character c) c.splits x.number) h)

  each_same : (reach : Reach) (xs : List Item) → has_all xs ≡ true → map (item_expansion other reach) xs ≡ map (item_expansion c reach) xs
  each_same reach [] h = refl
  each_same reach (x ∷ xs) h =
      let parts = and_parts (has_character c x.number) (has_all xs) h in
      ap (λ y. y ∷ map (item_expansion other reach) xs) (item_same reach x parts.0) ∙ ap (λ ys. item_expansion c reach x ∷ ys) (each_same reach xs parts.1)

  -- ---- groups

  group_same : (x : Item) (marks : List Item) → has_all (x ∷ marks) ≡ true → expanded_group other x marks ≡ expanded_group c x marks
  group_same x [] h = each_same (reach_alone c.mode) (x ∷ []) h
  group_same x (m ∷ marks) h =
      ap (λ ys. if list_any is_selector (x ∷ m ∷ marks) then ys else map (item_expansion other (reach_with_marks c.mode)) (x ∷ m ∷ marks)) (selections_same (Some x) (m ∷ marks))
      ∙ ap (λ ys. if list_any is_selector (x ∷ m ∷ marks) then selections_after c (Some x) (m ∷ marks) else ys) (each_same (reach_with_marks c.mode) (x ∷ m ∷ marks) h)

  has_more : (xs ys : List Item) → has_all xs ≡ true → has_all ys ≡ true → has_all (xs ++ ys) ≡ true
  has_more [] ys h k = k
  has_more (x ∷ xs) ys h k =
      let parts = and_parts (has_character c x.number) (has_all xs) h in
      rw (parts.0) (has_more xs ys parts.1 k)

  one_more : (y : Item) → has_character c y.number ≡ true → has_all (y ∷ []) ≡ true
  one_more y h = rw h refl

  groups_same : (x : Item) (marks ys : List Item) → has_all (x ∷ marks) ≡ true → has_all ys ≡ true → expanded_groups other x marks ys ≡ expanded_groups c x marks ys
  groups_same x marks [] h k = group_same x marks h
  groups_same x marks (y ∷ ys) h k =
      let parts = and_parts (has_character c y.number) (has_all ys) k in
      ap (λ g. if is_mark y then g else expanded_group other x marks ++ expanded_groups other y [] ys) (groups_same x (marks ++ y ∷ []) ys (has_more (x ∷ marks) (y ∷ []) h (one_more y parts.0)) parts.1)
      ∙ ap (λ g. if is_mark y then expanded_groups c x (marks ++ y ∷ []) ys else g ++ expanded_groups other y [] ys) (group_same x marks h)
      ∙ ap (λ g. if is_mark y then expanded_groups c x (marks ++ y ∷ []) ys else expanded_group c x marks ++ g) (groups_same y [] ys (one_more y parts.0) parts.1)

  list_same : (xs : List Item) → has_all xs ≡ true → expanded_list other xs ≡ expanded_list c xs
  list_same [] h = refl
  list_same (x ∷ xs) h =
      let parts = and_parts (has_character c x.number) (has_all xs) h in
      ap in_turn (groups_same x [] xs (one_more x parts.0) parts.1)

pub not_found_is_of_missing : NotFoundIsOfMissing
not_found_is_of_missing c glyph xs h = list_same c glyph xs h

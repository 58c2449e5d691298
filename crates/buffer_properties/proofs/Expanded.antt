-- The first round without selectors.
use Rattle.std.proofs.Common.{ℕ, ◌≡◌, true, false, List, [], ◌∷◌, ◌++◌, append_assoc, Option, Some, None, map, is_some, unwrap_or, refl, sym, ap, ap₂, ◌∙◌, inl, inr}
use Rattle.std.proofs.lemmas.Bool.{cases_Bool, cond-true, cond-false, and_parts, or_parts}
use Rattle.std.proofs.lemmas.List.{append-nil, map-append}
use Rattle.std.proofs.lemmas.List.Concat.{flat_map-append}
use Rattle.std.proofs.lemmas.List.Folds.{list_all-append, list_any-append}
use Rattle.std.specs.List.{list_all, list_any, flat_map}
use Rattle.buffer_unicode_tables.specs.Expansion.{EndWithin}
use Rattle.buffer_unicode_tables.specs.Tables.{split_of}
use Rattle.buffer_unicode_tables.specs.Texts.{full_expansion, full_text}
use Rattle.buffer_unicode_tables.proofs.Expansions.{expansion_alone}
use Rattle.buffer_glyphs.specs.Items.{Item}
use Rattle.buffer_glyphs.specs.Rewriting.{Arrangement, items, in_turn}
use Rattle.buffer_properties.specs.Characters.{is_mark, is_selector, standing_for, items_of_text, with_glyph}
use Rattle.buffer_properties.specs.Expanding.{with_found_glyph, items_for, piece_of, expanded_item, item_expansion, expanded_group, expanded_groups}
use Rattle.buffer_properties.specs.Normalizer.{Normalizer, has_character, reach_alone, reach_with_marks}
use Rattle.buffer_properties.specs.Premises.{SplitsAsUnicode}
use Rattle.buffer_properties.specs.SupportedExpansion.{Reach, Greatest}
use Rattle.buffer_properties.proofs.Supported.{greatest_pieces, no_pieces, pieces_agree}

pub items_in_turn : (stretches : List Arrangement) → (in_turn stretches).items ≡ flat_map items stretches
items_in_turn [] = refl
items_in_turn (a ∷ rest) = ap (λ ys. a.items ++ ys) (items_in_turn rest)

pub items_of_expanded : (c : Normalizer) (r : Reach) (xs : List Item) → flat_map items (map (item_expansion c r) xs) ≡ flat_map (expanded_item c r) xs
items_of_expanded c r [] = refl
items_of_expanded c r (x ∷ xs) = ap (λ ys. expanded_item c r x ++ ys) (items_of_expanded c r xs)

-- a group without selectors, where all are split equally far
group_items : (c : Normalizer) (r : Reach) (x : Item) (marks : List Item) → reach_alone c.mode ≡ r → reach_with_marks c.mode ≡ r → list_any is_selector (x ∷ marks) ≡ false
    → flat_map items (expanded_group c x marks) ≡ flat_map (expanded_item c r) (x ∷ marks)
group_items c r x [] alone marked none = ap (λ s. flat_map items (item_expansion c s x ∷ [])) alone
group_items c r x (m ∷ marks) alone marked none =
    ap (flat_map items) (cond-false _ _ _ none)
    ∙ (ap (λ s. flat_map items (map (item_expansion c s) (x ∷ m ∷ marks))) marked
    ∙ items_of_expanded c r (x ∷ m ∷ marks))

pub groups_items : (c : Normalizer) (r : Reach) (x : Item) (marks ys : List Item) → reach_alone c.mode ≡ r → reach_with_marks c.mode ≡ r → list_any is_selector (x ∷ (marks ++ ys)) ≡ false
    → flat_map items (expanded_groups c x marks ys) ≡ flat_map (expanded_item c r) (x ∷ (marks ++ ys))
groups_items c r x marks [] alone marked none =
    let end : marks ++ [] ≡ marks = append-nil marks in
    group_items c r x marks alone marked (ap (λ zs. list_any is_selector (x ∷ zs)) (sym end) ∙ none)
    ∙ ap (λ zs. flat_map (expanded_item c r) (x ∷ zs)) (sym end)
groups_items c r x marks (y ∷ ys) alone marked none =
    elim (cases_Bool (is_mark y)) [
      | inl mark ↦
          let joined : (marks ++ y ∷ []) ++ ys ≡ marks ++ y ∷ ys = append_assoc marks (y ∷ []) ys in
          ap (flat_map items) (cond-true _ _ _ mark)
          ∙ (groups_items c r x (marks ++ y ∷ []) ys alone marked (ap (λ zs. list_any is_selector (x ∷ zs)) joined ∙ none)
          ∙ ap (λ zs. flat_map (expanded_item c r) (x ∷ zs)) joined)
      | inr other ↦
          let pieces = or_parts (list_any is_selector (x ∷ marks)) (list_any is_selector (y ∷ ys)) (sym (list_any-append is_selector (x ∷ marks) (y ∷ ys)) ∙ none) in
          ap (flat_map items) (cond-false _ _ _ other)
          ∙ (flat_map-append items (expanded_group c x marks) (expanded_groups c y [] ys)
          ∙ (ap₂ (λ a b. a ++ b) (group_items c r x marks alone marked pieces.0) (groups_items c r y [] ys alone marked pieces.1)
          ∙ sym (flat_map-append (expanded_item c r) (x ∷ marks) (y ∷ ys))))
    ]

own_found : (c : Normalizer) (y : Item) (o : Option ℕ) → is_some o ≡ true → with_found_glyph c y o ≡ with_glyph (unwrap_or o 0) y
own_found c y None h = cc
own_found c y (Some g) h = refl

-- an item whose character the font has in full
item_in_full : (c : Normalizer) (x : Item) (u : ℕ) → EndWithin (split_of c.tables) 8 → SplitsAsUnicode c → list_all (has_character c) (full_expansion c.tables u) ≡ true → (o : Option (ℕ × ℕ)) → split_of c.tables u ≡ o
    → expanded_item c Greatest (standing_for c.tables u x) ≡ map (piece_of c x) (full_expansion c.tables u)
unfolding expanded_item piece_of
item_in_full c x u ends same h None s =
    let alone = expansion_alone c.tables u s in
    let has = and_parts (has_character c u) true (ap (list_all (has_character c)) (sym alone) ∙ h) in
    ap (items_for c (standing_for c.tables u x)) (pieces_agree Greatest (has_character c) c.splits (split_of c.tables) u same ∙ no_pieces Greatest (has_character c) (split_of c.tables) u s)
    ∙ (ap (λ y. y ∷ []) (own_found c (standing_for c.tables u x) (c.glyph_of u) has.0)
    ∙ ap (map (piece_of c x)) (sym alone))
item_in_full c x u ends same h (Some (a, b)) s =
    ap (items_for c (standing_for c.tables u x)) (pieces_agree Greatest (has_character c) c.splits (split_of c.tables) u same ∙ greatest_pieces (has_character c) c.tables u a b ends s h)

-- a text that the font has in full
pub text_in_full : (c : Normalizer) (x : Item) (us : List ℕ) → EndWithin (split_of c.tables) 8 → SplitsAsUnicode c → list_all (has_character c) (full_text c.tables us) ≡ true
    → flat_map (expanded_item c Greatest) (items_of_text c.tables x us) ≡ map (piece_of c x) (full_text c.tables us)
text_in_full c x [] ends same h = refl
text_in_full c x (u ∷ us) ends same h =
    let pieces = and_parts (list_all (has_character c) (full_expansion c.tables u)) (list_all (has_character c) (full_text c.tables us)) (sym (list_all-append (has_character c) (full_expansion c.tables u) (full_text c.tables us)) ∙ h) in
    ap₂ (λ a b. a ++ b) (item_in_full c x u ends same pieces.0 (split_of c.tables u) refl) (text_in_full c x us ends same pieces.1)
    ∙ sym (map-append (piece_of c x) (full_expansion c.tables u) (full_text c.tables us))

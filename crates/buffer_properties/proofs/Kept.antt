-- What keeps a list equivalent, and its items of the tables' classes.
use Rattle.std.proofs.Common.{ℕ, zero, suc, ◌≡◌, ◌==◌, ◌||◌, ◌⊎◌, Bool, true, false, List, [], ◌∷◌, ◌++◌, map, append_assoc, Option, Some, None, option_map, refl, sym, ap, subst, ◌∙◌, inl, inr, eqb-true}
use Rattle.std.proofs.lemmas.Bool.{cases_Bool, cond-true, cond-false, or_parts, and_parts}
use Rattle.std.proofs.lemmas.List.{append-nil, map-append}
use Rattle.std.proofs.lemmas.List.Concat.{flat_map-append}
use Rattle.std.proofs.lemmas.List.Folds.{list_any-append}
use Rattle.std.specs.List.{list_any, flat_map}
use Rattle.buffer_unicode_tables.specs.Expansion.{Splits, with_second_piece}
use Rattle.buffer_unicode_tables.specs.Lawful.{ClassesAreOfMarks}
use Rattle.buffer_unicode_tables.specs.Tables.{Tables, split_of, class_of}
use Rattle.buffer_unicode_tables.specs.Texts.{AreEquivalent, same}
use Rattle.buffer_glyphs.specs.Items.{Item}
use Rattle.buffer_glyphs.specs.Rewriting.{items, Arrangement}
use Rattle.buffer_properties.specs.Characters.{category_of, is_mark, is_mark_number, is_space, is_selector, mark_class, characters_of}
use Rattle.buffer_properties.specs.Expanding.{is_typed_space, space_glyph, with_glyph_of_space, with_found_glyph, items_for, piece_of, expanded_item, expanded_group, expanded_groups}
use Rattle.buffer_properties.specs.Normalizer.{Normalizer, has_character, reach_alone, reach_with_marks}
use Rattle.buffer_properties.specs.Premises.{SplitsAsUnicode}
use Rattle.buffer_properties.specs.SupportedExpansion.{Reach, Least, Greatest, alone, preferred_expansion, by_supported, supported_expansion, in_pieces, expansion}
use Rattle.buffer_properties.proofs.Classes.{class_of_piece}
use Rattle.buffer_properties.proofs.Equivalence.{then_all, side_by_side, split_is_equivalent, followed_alike}
use Rattle.buffer_properties.proofs.Expanded.{items_of_expanded}

-- supported expansions are equivalent to their characters
pub alone_is : (has : ℕ → Bool) (u : ℕ) (ws : List ℕ) → alone has u ≡ Some ws → u ∷ [] ≡ ws
alone_is has u ws e =
    elim (cases_Bool (has u)) [
      | inl found ↦ let whole : Some (u ∷ []) ≡ Some ws = sym (cond-true _ _ _ found) ∙ e in cc
      | inr lacks ↦ let none : None ≡ Some ws = sym (cond-false _ _ _ lacks) ∙ e in cc
    ]

pub preferred_is : (reach : Reach) (whole pieces : Option (List ℕ)) (ws : List ℕ) → preferred_expansion reach whole pieces ≡ Some ws → (whole ≡ Some ws) ⊎ (pieces ≡ Some ws)
preferred_is Least None pieces ws e = inr e
preferred_is Least (Some w) pieces ws e = inl e
preferred_is Greatest whole None ws e = inl e
preferred_is Greatest whole (Some w) ws e = inr e

pub mapped_is : (f : List ℕ → List ℕ) (o : Option (List ℕ)) (ws : List ℕ) → option_map f o ≡ Some ws → (vs : List ℕ) × ((o ≡ Some vs) × (f vs ≡ ws))
mapped_is f None ws e = cc
mapped_is f (Some vs) ws e = (vs, (refl, cc))

by_supported_equivalent : (t : Tables) (has : ℕ → Bool) (expand : ℕ → Option (List ℕ)) (u : ℕ) (o : Option (ℕ × ℕ)) (ws : List ℕ) → split_of t u ≡ o
    → ((a : ℕ) (vs : List ℕ) → expand a ≡ Some vs → AreEquivalent t (a ∷ []) vs) → by_supported has expand o ≡ Some ws → AreEquivalent t (u ∷ []) ws
by_supported_equivalent t has expand u None ws s h e = absurd (let none : None ≡ Some ws = e in cc)
by_supported_equivalent t has expand u (Some (a, b)) ws s h e =
    elim (cases_Bool (b == 0 || has b)) [
      | inl found ↦
          let at = mapped_is (with_second_piece b) (expand a) ws (sym (cond-true _ _ _ found) ∙ e) in
          subst (λ (zs : List ℕ). AreEquivalent t (u ∷ []) zs) at.1.1 (then_all t _ _ _ (split_is_equivalent t u a b s) (followed_alike t b (a ∷ []) at.0 (h a at.0 at.1.0)))
      | inr lacks ↦ absurd (let none : None ≡ Some ws = sym (cond-false _ _ _ lacks) ∙ e in cc)
    ]

supported_equivalent : (t : Tables) (reach : Reach) (has : ℕ → Bool) (splits : Splits) (depth u : ℕ) (ws : List ℕ) → ((v : ℕ) → splits v ≡ split_of t v) → supported_expansion reach has splits depth u ≡ Some ws → AreEquivalent t (u ∷ []) ws
unfolding supported_expansion
supported_equivalent t reach has splits zero u ws h e = subst (λ (zs : List ℕ). AreEquivalent t (u ∷ []) zs) (alone_is has u ws e) same
supported_equivalent t reach has splits (suc depth) u ws h e =
    elim (preferred_is reach (alone has u) (by_supported has (supported_expansion reach has splits depth) (splits u)) ws e) [
      | inl whole ↦ subst (λ (zs : List ℕ). AreEquivalent t (u ∷ []) zs) (alone_is has u ws whole) same
      | inr pieces ↦ by_supported_equivalent t has (supported_expansion reach has splits depth) u (splits u) ws (sym (h u)) (λ a vs k. supported_equivalent t reach has splits depth a vs h k) pieces
    ]

pieces_equivalent : (t : Tables) (reach : Reach) (has : ℕ → Bool) (splits : Splits) (u : ℕ) (ws : List ℕ) → ((v : ℕ) → splits v ≡ split_of t v) → in_pieces reach has splits u ≡ Some ws → AreEquivalent t (u ∷ []) ws
unfolding in_pieces
pieces_equivalent t reach has splits u ws h e = by_supported_equivalent t has (supported_expansion reach has splits 8) u (splits u) ws (sym (h u)) (λ a vs k. supported_equivalent t reach has splits 8 a vs h k) e

expansion_equivalent : (t : Tables) (reach : Reach) (has : ℕ → Bool) (splits : Splits) (u : ℕ) (ws : List ℕ) → ((v : ℕ) → splits v ≡ split_of t v) → expansion reach has splits u ≡ Some ws → AreEquivalent t (u ∷ []) ws
expansion_equivalent t Greatest has splits u ws h e = pieces_equivalent t Greatest has splits u ws h e
expansion_equivalent t Least has splits u ws h e =
    elim (cases_Bool (has u)) [
      | inl found ↦ absurd (let none : None ≡ Some ws = sym (cond-true _ _ _ found) ∙ e in cc)
      | inr lacks ↦ pieces_equivalent t Least has splits u ws h (sym (cond-false _ _ _ lacks) ∙ e)
    ]

-- each item has the class that the tables give its character
abbrev pub AreOfTables : Tables → List Item → Type 0
AreOfTables t [] = Unit {0}
AreOfTables t (x ∷ xs) = (mark_class x ≡ class_of t x.number) × AreOfTables t xs

pub of_tables_append : (t : Tables) (xs ys : List Item) → AreOfTables t xs → AreOfTables t ys → AreOfTables t (xs ++ ys)
of_tables_append t [] ys h k = k
of_tables_append t (x ∷ xs) ys h k = (h.0, of_tables_append t xs ys h.1 k)

pub of_tables_front : (t : Tables) (xs ys : List Item) → AreOfTables t (xs ++ ys) → AreOfTables t xs
of_tables_front t [] ys h = tt
of_tables_front t (x ∷ xs) ys h = (h.0, of_tables_front t xs ys h.1)

pub of_tables_back : (t : Tables) (xs ys : List Item) → AreOfTables t (xs ++ ys) → AreOfTables t ys
of_tables_back t [] ys h = h
of_tables_back t (x ∷ xs) ys h = of_tables_back t xs ys h.1

-- a list instead of another: equivalent, and of the tables' classes where the other was
pub record Keeps (t : Tables) (xs ys : List Item) : Type 0 where
  pub equivalent : AreEquivalent t (characters_of xs) (characters_of ys)
  pub of_tables : AreOfTables t xs → AreOfTables t ys

pub keeps_both : (t : Tables) (ws xs ys zs : List Item) → Keeps t ws xs → Keeps t ys zs → Keeps t (ws ++ ys) (xs ++ zs)
keeps_both t ws xs ys zs h k =
    let P : List ℕ → List ℕ → Type 0 = AreEquivalent t in
    let all = side_by_side t (characters_of ws) (characters_of xs) (characters_of ys) (characters_of zs) h.equivalent k.equivalent in
    let number = λ (x : Item). x.number in
    record {
      equivalent = subst (λ (a : List ℕ). P a (characters_of (xs ++ zs))) (sym (map-append (λ (x : Item). x.number) ws ys)) (subst (λ (b : List ℕ). P (characters_of ws ++ characters_of ys) b) (sym (map-append (λ (x : Item). x.number) xs zs)) all);
      of_tables = λ o. of_tables_append t xs zs (h.of_tables (of_tables_front t ws ys o)) (k.of_tables (of_tables_back t ws ys o));
    }

pub keeps_then : (t : Tables) (xs ys zs : List Item) → Keeps t xs ys → Keeps t ys zs → Keeps t xs zs
keeps_then t xs ys zs h k = record { equivalent = then_all t _ _ _ h.equivalent k.equivalent; of_tables = λ o. k.of_tables (h.of_tables o) }

number_with_space : (c : Normalizer) (x : Item) (o : Option ℕ) → (with_glyph_of_space c x o).number ≡ x.number
number_with_space c x None = refl
number_with_space c x (Some g) = refl

pub number_found : (c : Normalizer) (x : Item) (o : Option ℕ) → (with_found_glyph c x o).number ≡ x.number
number_found c x None = number_with_space c x (space_glyph c x)
number_found c x (Some g) = refl

pub space_is_no_mark : (x : Item) → is_space x ≡ true → is_mark x ≡ false
space_is_no_mark x h = let e : category_of x ≡ 29 = eqb-true (category_of x) 29 h in ap is_mark_number e

class_with_space : (c : Normalizer) (x : Item) (o : Option ℕ) → space_glyph c x ≡ o → mark_class (with_glyph_of_space c x o) ≡ mark_class x
class_with_space c x None e = refl
class_with_space c x (Some g) e =
    elim (cases_Bool (is_typed_space x)) [
      | inl found ↦
          let pieces = and_parts (is_space x) _ found in
          let off = space_is_no_mark x pieces.0 in
          cond-false _ _ _ off ∙ sym (cond-false _ _ _ off)
      | inr lacks ↦ absurd (let none : None ≡ Some g = sym (cond-false _ _ _ lacks) ∙ e in cc)
    ]

class_found : (c : Normalizer) (x : Item) (o : Option ℕ) → mark_class (with_found_glyph c x o) ≡ mark_class x
class_found c x None = class_with_space c x (space_glyph c x) refl
class_found c x (Some g) = refl

pub characters_of_pieces : (c : Normalizer) (x : Item) (us : List ℕ) → characters_of (map (piece_of c x) us) ≡ us
unfolding piece_of
characters_of_pieces c x [] = refl
characters_of_pieces c x (u ∷ us) = ap (λ vs. u ∷ vs) (characters_of_pieces c x us)

pieces_of_tables : (c : Normalizer) (x : Item) (us : List ℕ) → ClassesAreOfMarks c.tables → AreOfTables c.tables (map (piece_of c x) us)
unfolding piece_of
pieces_of_tables c x [] marks = tt
pieces_of_tables c x (u ∷ us) marks = (class_of_piece c x u marks, pieces_of_tables c x us marks)

items_keep : (c : Normalizer) (x : Item) (o : Option (List ℕ)) → ClassesAreOfMarks c.tables → ((ws : List ℕ) → o ≡ Some ws → AreEquivalent c.tables (x.number ∷ []) ws) → Keeps c.tables (x ∷ []) (items_for c x o)
items_keep c x None marks h =
    let number = number_found c x (c.glyph_of x.number) in
    let class = class_found c x (c.glyph_of x.number) in
    record {
      equivalent = subst (λ (n : ℕ). AreEquivalent c.tables (x.number ∷ []) (n ∷ [])) (sym number) same;
      of_tables = λ o. (class ∙ (o.0 ∙ ap (class_of c.tables) (sym number)), tt);
    }
items_keep c x (Some us) marks h = record {
  equivalent = subst (λ (zs : List ℕ). AreEquivalent c.tables (x.number ∷ []) zs) (sym (characters_of_pieces c x us)) (h us refl);
  of_tables = λ o. pieces_of_tables c x us marks;
}

item_keeps : (c : Normalizer) (r : Reach) (x : Item) → ClassesAreOfMarks c.tables → SplitsAsUnicode c → Keeps c.tables (x ∷ []) (expanded_item c r x)
unfolding expanded_item
item_keeps c r x marks unicode = items_keep c x (expansion r (has_character c) c.splits x.number) marks (λ ws e. expansion_equivalent c.tables r (has_character c) c.splits x.number ws unicode e)

each_keeps : (c : Normalizer) (r : Reach) (xs : List Item) → ClassesAreOfMarks c.tables → SplitsAsUnicode c → Keeps c.tables xs (flat_map (expanded_item c r) xs)
each_keeps c r [] marks unicode = record { equivalent = same; of_tables = λ o. o }
each_keeps c r (x ∷ xs) marks unicode = keeps_both c.tables (x ∷ []) (expanded_item c r x) xs (flat_map (expanded_item c r) xs) (item_keeps c r x marks unicode) (each_keeps c r xs marks unicode)

-- what holds between lists and their expansions, and between lists of such lists
pub record IsKept (c : Normalizer) (R : List Item → List Item → Type 0) : Type 0 where
  pub each : (r : Reach) (xs : List Item) → R xs (flat_map (expanded_item c r) xs)
  pub both : (ws xs ys zs : List Item) → R ws xs → R ys zs → R (ws ++ ys) (xs ++ zs)

group_keeps : (c : Normalizer) (R : List Item → List Item → Type 0) (x : Item) (ms : List Item) → IsKept c R → list_any is_selector (x ∷ ms) ≡ false → R (x ∷ ms) (flat_map items (expanded_group c x ms))
group_keeps c R x [] kept none = kept.each (reach_alone c.mode) (x ∷ [])
group_keeps c R x (m ∷ ms) kept none =
    let whole = ap (flat_map items) (cond-false _ _ _ none) ∙ items_of_expanded c (reach_with_marks c.mode) (x ∷ m ∷ ms) in
    subst (R (x ∷ m ∷ ms)) (sym whole) (kept.each (reach_with_marks c.mode) (x ∷ m ∷ ms))

-- so it holds between a list without selectors and its groups, expanded
pub groups_keep : (c : Normalizer) (R : List Item → List Item → Type 0) (x : Item) (ms ys : List Item) → IsKept c R → list_any is_selector (x ∷ (ms ++ ys)) ≡ false
    → R (x ∷ (ms ++ ys)) (flat_map items (expanded_groups c x ms ys))
groups_keep c R x ms [] kept none =
    let end : ms ++ [] ≡ ms = append-nil ms in
    let K : List Item → Type 0 = λ zs. R (x ∷ zs) (flat_map items (expanded_group c x ms)) in
    subst K (sym end) (group_keeps c R x ms kept (ap (λ zs. list_any is_selector (x ∷ zs)) (sym end) ∙ none))
groups_keep c R x ms (y ∷ ys) kept none =
    elim (cases_Bool (is_mark y)) [
      | inl mark ↦
          let joined : (ms ++ y ∷ []) ++ ys ≡ ms ++ y ∷ ys = append_assoc ms (y ∷ []) ys in
          let K : List Item → List Arrangement → Type 0 = λ zs stretches. R (x ∷ zs) (flat_map items stretches) in
          subst (λ (zs : List Item). K zs (expanded_groups c x ms (y ∷ ys))) joined
          (subst (K ((ms ++ y ∷ []) ++ ys)) (sym (cond-true _ _ _ mark)) (groups_keep c R x (ms ++ y ∷ []) ys kept (ap (λ zs. list_any is_selector (x ∷ zs)) joined ∙ none)))
      | inr other ↦
          let pieces = or_parts (list_any is_selector (x ∷ ms)) (list_any is_selector (y ∷ ys)) (sym (list_any-append is_selector (x ∷ ms) (y ∷ ys)) ∙ none) in
          let K : List Item → Type 0 = R (x ∷ (ms ++ y ∷ ys)) in
          let whole = ap (flat_map items) (cond-false _ _ _ other) ∙ flat_map-append items (expanded_group c x ms) (expanded_groups c y [] ys) in
          subst K (sym whole) (kept.both (x ∷ ms) (flat_map items (expanded_group c x ms)) (y ∷ ys) (flat_map items (expanded_groups c y [] ys)) (group_keeps c R x ms kept pieces.0) (groups_keep c R y [] ys kept pieces.1))
    ]

pub expansion_keeps : (c : Normalizer) → ClassesAreOfMarks c.tables → SplitsAsUnicode c → IsKept c (Keeps c.tables)
expansion_keeps c marks unicode = record { each = λ r xs. each_keeps c r xs marks unicode; both = keeps_both c.tables }

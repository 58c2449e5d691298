-- The components of a ligature, one after another.
use Rattle.std.proofs.Common.{ℕ, ◌≡◌, ◌≤◌, ◌<◌, ◌+◌, true, false, List, [], ◌∷◌, length, drop, refl, ap, sym, ◌∙◌, arith, Some, get_or, slice_get}
use Rattle.std.proofs.lemmas.List.{drop_more, drop_all}
use Rattle.std.proofs.lemmas.List.Sums.{sum-map, sum_by-cons}
use Rattle.std.proofs.lemmas.Option.{slice_get-map}
use Rattle.buffer_glyphs.specs.declared.info.hb_glyph_info_t.{hb_glyph_info_t}
use Rattle.buffer_glyphs.specs.Items.{Item, item_of, strip}
use Rattle.buffer_glyphs.specs.LigatureWords.{is_mark, lig_num_comps}
use Rattle.layout_gsub.specs.Ligating.{are_marks, component_count, components_at, items_at}

-- the items at the places that are left begin with the one at the next
components_left : (k : ℕ) (places : List ℕ) (gs : List hb_glyph_info_t) (g : hb_glyph_info_t) → k < length places → slice_get gs (get_or places k 0) ≡ Some g → items_at (drop k places) (strip gs) ≡ item_of g ∷ items_at (drop (k + 1) places) (strip gs)
components_left k places gs g lt at = rw (drop_more places k 0 lt, slice_get-map item_of gs (get_or places k 0), at) refl

pub mark_there : (k : ℕ) (places : List ℕ) (gs : List hb_glyph_info_t) (g : hb_glyph_info_t) → k < length places → slice_get gs (get_or places k 0) ≡ Some g → is_mark (item_of g) ≡ true
    → are_marks (items_at (drop k places) (strip gs)) ≡ are_marks (items_at (drop (k + 1) places) (strip gs))
mark_there k places gs g lt at is = ap are_marks (components_left k places gs g lt at) ∙ rw is refl

pub other_there : (k : ℕ) (places : List ℕ) (gs : List hb_glyph_info_t) (g : hb_glyph_info_t) → k < length places → slice_get gs (get_or places k 0) ≡ Some g → is_mark (item_of g) ≡ false
    → are_marks (items_at (drop k places) (strip gs)) ≡ false
other_there k places gs g lt at is = ap are_marks (components_left k places gs g lt at) ∙ rw is refl

pub none_there : (k : ℕ) (places : List ℕ) (xs : List Item) → length places ≤ k → are_marks (items_at (drop k places) xs) ≡ true
none_there k places xs le = rw (drop_all k places le) refl

-- the components of one more
pub counted_cons : (x : Item) (xs : List Item) → component_count (x ∷ xs) ≡ lig_num_comps x + component_count xs
counted_cons x xs = sum-map lig_num_comps (x ∷ xs) ∙ sum_by-cons lig_num_comps x xs ∙ ap (λ n. lig_num_comps x + n) (sym (sum-map lig_num_comps xs))

-- the first component is the glyph at the cursor
pub counted_first : (places : List ℕ) (gs : List hb_glyph_info_t) (g : hb_glyph_info_t) → slice_get gs 0 ≡ Some g → component_count (items_at (0 ∷ places) (strip gs)) ≡ lig_num_comps (item_of g) + component_count (items_at places (strip gs))
counted_first places [] g at = cc
counted_first places (h ∷ gs) g at = let same : h ≡ g = cc in rw (same) (counted_cons (item_of g) (items_at places (item_of g ∷ strip gs)))

pub counted_own : (gs : List hb_glyph_info_t) (g : hb_glyph_info_t) → slice_get gs 0 ≡ Some g → lig_num_comps (item_of g) ≡ components_at 0 (strip gs)
counted_own [] g at = cc
counted_own (h ∷ gs) g at = let same : h ≡ g = cc in let none : lig_num_comps (item_of h) + 0 ≡ lig_num_comps (item_of h) = omega arith in rw (← same) (sym (counted_cons (item_of h) [] ∙ none))

pub counted_there : (k : ℕ) (places : List ℕ) (gs : List hb_glyph_info_t) (g : hb_glyph_info_t) → k < length places → slice_get gs (get_or places k 0) ≡ Some g
    → component_count (items_at (drop k places) (strip gs)) ≡ lig_num_comps (item_of g) + component_count (items_at (drop (k + 1) places) (strip gs))
counted_there k places gs g lt at = ap component_count (components_left k places gs g lt at) ∙ counted_cons (item_of g) (items_at (drop (k + 1) places) (strip gs))

pub counted_all : (k : ℕ) (places : List ℕ) (xs : List Item) → length places ≤ k → component_count (items_at (drop k places) xs) ≡ 0
counted_all k places xs le = rw (drop_all k places le) refl

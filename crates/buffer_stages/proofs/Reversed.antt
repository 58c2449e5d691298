-- Groups of glyphs in reversed order: the indices at which they stood, and the items that they are.
use Rattle.std.proofs.Common.{ℕ, zero, suc, ◌≡◌, ◌≤◌, Bool, List, [], ◌∷◌, length, Some, slice_get, sym, ap, subst, ◌∙◌}
use Rattle.std.specs.Prelude.{not, slice_range}
use Rattle.std.specs.List.{range_with_len}
use Rattle.std.specs.Option.{option_map_or}
use Rattle.std.proofs.lemmas.List.FromFn.{length-range_with_len}
use Rattle.buffer_glyphs.specs.declared.info.hb_glyph_info_t.{hb_glyph_info_t}
use Rattle.buffer_glyphs.specs.Items.{Item, item_of, strip}
use Rattle.buffer_lists.specs.Lemmas.Picked.{AreAt, are_all}
use Rattle.buffer_lists.specs.Turning.{groups_reversed_list}
use Rattle.buffer_core.specs.Sides.{Sides, all_glyphs, items_of}
use Rattle.buffer_stages.specs.Fronts.{one_seen}
use Rattle.buffer_stages.specs.Ordering.{begins_at, same_group}
use Rattle.buffer_stages.specs.Turned.{leading_turned}
use Rattle.buffer_stages.specs.Lemmas.Sorted.{groups_turned_size}
use Rattle.buffer_stages.proofs.GroupOrder.{turned_all, turned_at, turned_seen}
use Rattle.buffer_glyphs.specs.Lemmas.Origins.{slice_seen as range_seen}

pub got_strip : (gs : List hb_glyph_info_t) (i : ℕ) (g : hb_glyph_info_t) → slice_get gs i ≡ Some g → slice_get (strip gs) i ≡ Some (item_of g)
got_strip [] i g e = cc
got_strip (h ∷ gs) zero g e = let same : h ≡ g = cc in ap (λ k. Some (item_of k)) same
got_strip (h ∷ gs) (suc i) g e = got_strip gs i g e

abbrev pub reversed_of : (Item → Bool) → List hb_glyph_info_t → List hb_glyph_info_t
reversed_of begins gs = leading_turned (one_seen begins) gs [] []

abbrev pub order_in : (Item → Bool) → List Item → List ℕ
order_in begins xs = groups_reversed_list (λ i j. not (begins_at begins xs j)) (range_with_len 0 (length xs))

pub order_size : (begins : Item → Bool) (xs : List Item) → length (order_in begins xs) ≡ length xs
order_size begins xs = groups_turned_size (λ (i j : ℕ). not (begins_at begins xs j)) (range_with_len 0 (length xs)) ∙ length-range_with_len 0 (length xs)

pub reversed_items : (begins : Item → Bool) (gs : List hb_glyph_info_t) → strip (reversed_of begins gs) ≡ groups_reversed_list (same_group begins) (strip gs)
reversed_items begins gs = turned_seen item_of begins gs [] [] ∙ turned_all begins (strip gs)

pub reversed_at : (begins : Item → Bool) (gs : List hb_glyph_info_t) (xs : List Item) → strip gs ≡ xs → length gs ≡ length xs → AreAt gs (order_in begins xs) (reversed_of begins gs)
reversed_at begins gs xs seen size =
    subst (λ is. AreAt gs is (reversed_of begins gs)) (turned_all (begins_at begins xs) (range_with_len 0 (length xs)))
    (subst (λ n. AreAt gs (leading_turned (begins_at begins xs) (range_with_len 0 n) [] []) (reversed_of begins gs)) size
    (turned_at gs (one_seen begins) (begins_at begins xs) (λ i g at. ap (λ ys. begins_at begins ys i) (sym seen) ∙ ap (λ o. option_map_or begins o Rattle.std.specs.Prelude.false) (got_strip gs i g at)) (range_with_len 0 (length gs)) [] [] gs [] [] (are_all [] gs) tt tt))

-- of a part of a buffer that merged
pub part_of : (from to : ℕ) (s merged : Sides) → items_of merged ≡ items_of s → from ≤ to → to ≤ length (all_glyphs merged)
    → (strip (slice_range (all_glyphs merged) from to) ≡ slice_range (items_of s) from to) × (length (slice_range (all_glyphs merged) from to) ≡ length (slice_range (items_of s) from to))
part_of from to s merged same le fits =
    let seen : strip (slice_range (all_glyphs merged) from to) ≡ slice_range (items_of s) from to = range_seen item_of from to (all_glyphs merged) ∙ ap (λ xs. slice_range xs from to) same in
    (seen, sym (Rattle.std.proofs.lemmas.List.length-map (slice_range (all_glyphs merged) from to) item_of) ∙ ap (λ (xs : List Item). length xs) seen)

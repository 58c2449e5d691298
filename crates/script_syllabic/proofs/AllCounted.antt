-- The glyphs of a text each of which counts for syllables.
use Rattle.std.proofs.Common.{ℕ, zero, suc, ◌≡◌, ◌<◌, ◌≤◌, ◌+◌, Bool, true, false, ◌&&◌, if◌then◌else◌, min, List, [], ◌∷◌, ◌++◌, length, map, drop, get_or, arith, refl, sym, ap, ◌∙◌}
use Rattle.std.specs.List.{range_with_len}
use Rattle.std.proofs.lemmas.List.{drop_all, drop_more}
use Rattle.buffer_glyphs.specs.declared.info.hb_glyph_info_t.{hb_glyph_info_t}
use Rattle.buffer_glyphs.specs.Items.{item_of, strip}
use Rattle.script_syllabic.specs.Spans.{are_all_counted, categories_counted, counted_indices_from, index_or_end, is_counted}

-- ---- the test

split : (i : ℕ) (gs : List hb_glyph_info_t) (d : hb_glyph_info_t) → i < length gs
    → are_all_counted (strip (drop i gs)) ≡ (is_counted (item_of (get_or gs i d)) (strip (drop (i + 1) gs)) && are_all_counted (strip (drop (i + 1) gs)))
split i gs d lt = ap (λ hs. are_all_counted (strip hs)) (drop_more gs i d lt)

pub is_passed : (i : ℕ) (gs : List hb_glyph_info_t) (d : hb_glyph_info_t) (b : Bool) → i < length gs → is_counted (item_of (get_or gs i d)) (strip (drop (i + 1) gs)) ≡ true → are_all_counted (strip (drop i gs)) ≡ b → are_all_counted (strip (drop (i + 1) gs)) ≡ b
is_passed i gs d b lt e f = sym (ap (λ t. t && are_all_counted (strip (drop (i + 1) gs))) e) ∙ sym (split i gs d lt) ∙ f

pub is_skipped : (i : ℕ) (gs : List hb_glyph_info_t) (d : hb_glyph_info_t) (b : Bool) → i < length gs → is_counted (item_of (get_or gs i d)) (strip (drop (i + 1) gs)) ≡ false → are_all_counted (strip (drop i gs)) ≡ b → false ≡ b
is_skipped i gs d b lt e f = sym (ap (λ t. t && are_all_counted (strip (drop (i + 1) gs))) e) ∙ sym (split i gs d lt) ∙ f

pub none_skipped : (i : ℕ) (gs : List hb_glyph_info_t) (b : Bool) → length gs ≤ i → are_all_counted (strip (drop i gs)) ≡ b → true ≡ b
none_skipped i gs b past f = ap (λ hs. are_all_counted (strip hs)) (sym (drop_all i gs past)) ∙ f

-- ---- what is counted then

pub all_categories : (gs : List hb_glyph_info_t) → are_all_counted (strip gs) ≡ true → map (λ (g : hb_glyph_info_t). g.category) gs ≡ categories_counted (strip gs)
all_categories [] e = refl
all_categories (g ∷ gs) e = by_test (all_categories gs) (is_counted (item_of g) (strip gs)) e
  where
    by_test : (are_all_counted (strip gs) ≡ true → map (λ (h : hb_glyph_info_t). h.category) gs ≡ categories_counted (strip gs)) → (t : Bool) → (t && are_all_counted (strip gs)) ≡ true
        → g.category ∷ map (λ (h : hb_glyph_info_t). h.category) gs ≡ (if t then g.category ∷ [] else []) ++ categories_counted (strip gs)
    by_test later true e = ap (λ ys. g.category ∷ ys) (later e)
    by_test later false e = cc e

indices_from : (at : ℕ) (gs : List hb_glyph_info_t) → are_all_counted (strip gs) ≡ true → range_with_len at (length gs) ≡ counted_indices_from at (strip gs)
indices_from at [] e = refl
indices_from at (g ∷ gs) e = by_test (indices_from (at + 1) gs) (is_counted (item_of g) (strip gs)) e
  where
    by_test : (are_all_counted (strip gs) ≡ true → range_with_len (at + 1) (length gs) ≡ counted_indices_from (at + 1) (strip gs)) → (t : Bool) → (t && are_all_counted (strip gs)) ≡ true
        → at ∷ range_with_len (at + 1) (length gs) ≡ (if t then at ∷ [] else []) ++ counted_indices_from (at + 1) (strip gs)
    by_test later true e = ap (λ ys. at ∷ ys) (later e)
    by_test later false e = cc e

pub all_indices : (gs : List hb_glyph_info_t) → are_all_counted (strip gs) ≡ true → range_with_len 0 (length gs) ≡ counted_indices_from 0 (strip gs)
all_indices gs e = indices_from 0 gs e

-- ---- an index among all

index_from : (at n i end : ℕ) → at + n ≡ end → index_or_end (range_with_len at n) end i ≡ min (at + i) end
index_from at zero i end e = omega arith
index_from at (suc n) zero end e = omega arith
index_from at (suc n) (suc i) end e = (let later = index_from (at + 1) n i end (omega (arith, e)) in omega (arith, later))

pub index_itself : (end i : ℕ) → min i end ≡ index_or_end (range_with_len 0 end) end i
index_itself end i =
    let first : i ≡ 0 + i = omega arith in
    let all : 0 + end ≡ end = omega arith in
    ap (λ m. min m end) first ∙ sym (index_from 0 end i end all)

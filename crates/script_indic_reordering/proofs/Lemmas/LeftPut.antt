-- Left matras that move after all others: how the glyphs move, and the indices at which they stood.
use Rattle.std.proofs.Common.{ℕ, zero, suc, ◌≡◌, ◌≤◌, ◌+◌, ◌-◌, Bool, true, false, if◌then◌else◌, List, [], ◌∷◌, ◌++◌, length, map, take, drop, filter, reverse, Some, slice_get, refl, sym, ap, subst, ◌∙◌, arith, append_assoc}
use Rattle.std.specs.Prelude.{not, slice_range}
use Rattle.std.specs.List.{range_with_len}
use Rattle.std.specs.Option.{option_map_or}
use Rattle.std.proofs.Math.Seq.{take-append_seam, drop-append_seam}
use Rattle.std.proofs.lemmas.List.{append-nil, drop_all, length-append, length-drop, length-map, length-reverse, length-take-le, reverse-append, reverse-reverse, take-append-drop, take_all, map-append, take-map, drop-map}
use Rattle.buffer_glyphs.specs.declared.info.hb_glyph_info_t.{hb_glyph_info_t}
use Rattle.buffer_glyphs.specs.Items.{Item, item_of, strip}
use Rattle.buffer_lists.specs.Lemmas.Picked.{AreAt, are_all, are_both}
use Rattle.buffer_stages.specs.Fronts.{fronts, with_fronts_moved, one_seen, pair_seen, elements_after_fronts}
use Rattle.buffer_stages.specs.Lemmas.Moves.{are_among}
use Rattle.buffer_stages.specs.Moves.{with_range_moved}
use Rattle.script_indic_reordering.specs.Glyphs.{is_left}
use Rattle.script_indic_reordering.specs.Final.{is_left_at, lefts_last}
use Rattle.script_indic_reordering.specs.Left.{glyphs_put, is_other, together}
use Rattle.buffer_stages.proofs.Reversed.{got_strip}

-- ---- what gathering leaves

abbrev other : hb_glyph_info_t → Bool
other g = is_other (item_of g)

abbrev left : hb_glyph_info_t → Bool
left g = is_left (item_of g)

fronts_are : (gs : List hb_glyph_info_t) → fronts (pair_seen together) (one_seen is_other) gs ≡ reverse (filter other gs)
fronts_are [] = refl
fronts_are (g ∷ []) = by_test (other g)
  where
    by_test : (t : Bool) → (if t then g ∷ [] else []) ≡ reverse (if t then g ∷ [] else [])
    by_test true = refl
    by_test false = refl
fronts_are (g ∷ h ∷ hs) = by_test (other g) (fronts_are (h ∷ hs))
  where
    by_test : (t : Bool) → fronts (pair_seen together) (one_seen is_other) (h ∷ hs) ≡ reverse (filter other (h ∷ hs))
        → (if t then fronts (pair_seen together) (one_seen is_other) (h ∷ hs) ++ (g ∷ []) else fronts (pair_seen together) (one_seen is_other) (h ∷ hs)) ≡ reverse (if t then g ∷ filter other (h ∷ hs) else filter other (h ∷ hs))
    by_test true e = ap (λ ys. ys ++ (g ∷ [])) e ∙ sym (reverse-append (g ∷ []) (filter other (h ∷ hs)))
    by_test false e = e

stayed_are : (gs : List hb_glyph_info_t) → elements_after_fronts (pair_seen together) (one_seen is_other) gs ≡ filter left gs
stayed_are [] = refl
stayed_are (g ∷ []) = by_test (left g)
  where
    by_test : (t : Bool) → (if not t then [] else g ∷ []) ≡ (if t then g ∷ [] else [])
    by_test true = refl
    by_test false = refl
stayed_are (g ∷ h ∷ hs) = by_test (left g) (stayed_are (h ∷ hs))
  where
    by_test : (t : Bool) → elements_after_fronts (pair_seen together) (one_seen is_other) (h ∷ hs) ≡ filter left (h ∷ hs)
        → (if not t then elements_after_fronts (pair_seen together) (one_seen is_other) (h ∷ hs) else g ∷ elements_after_fronts (pair_seen together) (one_seen is_other) (h ∷ hs)) ≡ (if t then g ∷ filter left (h ∷ hs) else filter left (h ∷ hs))
    by_test true e = ap (λ ys. g ∷ ys) e
    by_test false e = e

picked_size : (gs : List hb_glyph_info_t) → length (filter other gs) + length (filter left gs) ≡ length gs
picked_size [] = refl
picked_size (g ∷ gs) = by_test (left g) (picked_size gs)
  where
    by_test : (t : Bool) → length (filter other gs) + length (filter left gs) ≡ length gs → length (if not t then g ∷ filter other gs else filter other gs) + length (if t then g ∷ filter left gs else filter left gs) ≡ suc (length gs)
    by_test true e = omega (arith, e)
    by_test false e = omega (arith, e)

pub put_size : (n : ℕ) (gs : List hb_glyph_info_t) → length (glyphs_put n gs) ≡ length gs
put_size n gs =
    let a = length-append (filter other (take n gs) ++ drop n gs) (filter left (take n gs)) in
    let b = length-append (filter other (take n gs)) (drop n gs) in
    let c = length-append (take n gs) (drop n gs) in
    let d = ap length (take-append-drop n gs) in
    omega (arith, a, b, c, d, picked_size (take n gs))

-- those that moved to the front are reversed, and the left ones are exchanged with the glyphs after them
pub put_is : (n k : ℕ) (gs one two three : List hb_glyph_info_t) → n ≤ length gs
    → one ≡ take 0 gs ++ with_fronts_moved (pair_seen together) (one_seen is_other) (slice_range gs 0 n) ++ drop n gs → k ≡ length (fronts (pair_seen together) (one_seen is_other) (slice_range gs 0 n))
    → two ≡ take 0 one ++ reverse (slice_range one 0 k) ++ drop k one → three ≡ with_range_moved k (n - k) (length gs - n) two → three ≡ glyphs_put n gs
put_is n k gs one two three fits e c f h =
    let cut : slice_range gs 0 n ≡ take n gs = ap (λ m. take m gs) (let same : n - 0 ≡ n = omega arith in same) in
    let others = filter other (take n gs) in
    let lefts = filter left (take n gs) in
    let rest = drop n gs in
    let first : one ≡ (reverse others ++ lefts) ++ rest =
    e ∙ ap (λ ys. with_fronts_moved (pair_seen together) (one_seen is_other) ys ++ rest) cut ∙ ap (λ ys. (ys ++ elements_after_fronts (pair_seen together) (one_seen is_other) (take n gs)) ++ rest) (fronts_are (take n gs)) ∙ ap (λ ys. (reverse others ++ ys) ++ rest) (stayed_are (take n gs)) in
    let count : k ≡ length (reverse others) = c ∙ ap (λ ys. length (fronts (pair_seen together) (one_seen is_other) ys)) cut ∙ ap length (fronts_are (take n gs)) in
    let flat : one ≡ reverse others ++ (lefts ++ rest) = first ∙ append_assoc (reverse others) lefts rest in
    let head : slice_range one 0 k ≡ reverse others = ap (λ m. take m one) (let same : k - 0 ≡ k = omega arith in same) ∙ ap (take k) flat ∙ ap (λ m. take m (reverse others ++ (lefts ++ rest))) count ∙ take-append_seam (reverse others) (lefts ++ rest) in
    let tail : drop k one ≡ lefts ++ rest = ap (drop k) flat ∙ ap (λ m. drop m (reverse others ++ (lefts ++ rest))) count ∙ drop-append_seam (reverse others) (lefts ++ rest) in
    let second : two ≡ others ++ (lefts ++ rest) = f ∙ ap (λ ys. reverse ys ++ drop k one) head ∙ ap (λ ys. ys ++ drop k one) (reverse-reverse others) ∙ ap (λ ys. others ++ ys) tail in
    let size : k ≡ length others = count ∙ length-reverse others in
    let both = picked_size (take n gs) in
    let long = length-take-le n gs fits in
    let few : n - k ≡ length lefts = omega (arith, both, long, size) in
    let last : length gs - n ≡ length rest = sym (length-drop n gs) in
    let at : k + (n - k) ≡ length (others ++ lefts) = omega (arith, length-append others lefts, both, long, size) in
    let whole : others ++ (lefts ++ rest) ≡ (others ++ lefts) ++ rest = sym (append_assoc others lefts rest) in
    let a : take k two ≡ others = ap (take k) second ∙ ap (λ m. take m (others ++ (lefts ++ rest))) size ∙ take-append_seam others (lefts ++ rest) in
    let b : drop k two ≡ lefts ++ rest = ap (drop k) second ∙ ap (λ m. drop m (others ++ (lefts ++ rest))) size ∙ drop-append_seam others (lefts ++ rest) in
    let l : take (n - k) (drop k two) ≡ lefts = ap (take (n - k)) b ∙ ap (λ m. take m (lefts ++ rest)) few ∙ take-append_seam lefts rest in
    let d : drop (k + (n - k)) two ≡ rest = ap (drop (k + (n - k))) (second ∙ whole) ∙ ap (λ m. drop m ((others ++ lefts) ++ rest)) at ∙ drop-append_seam (others ++ lefts) rest in
    let r : take (length gs - n) (drop (k + (n - k)) two) ≡ rest = ap (take (length gs - n)) d ∙ take_all (length gs - n) rest (omega (arith, last)) in
    let total : length two ≡ length gs = ap length second ∙ omega (arith, length-append others (lefts ++ rest), length-append lefts rest, both, long, length-drop n gs, fits) in
    let none : drop (k + ((n - k) + (length gs - n))) two ≡ [] = drop_all (k + ((n - k) + (length gs - n))) two (omega (arith, total, both, long, size, fits)) in
    h ∙ ap (λ ys. ys ++ (take (length gs - n) (drop (k + (n - k)) two) ++ take (n - k) (drop k two)) ++ drop (k + ((n - k) + (length gs - n))) two) a
    ∙ ap (λ ys. others ++ (ys ++ take (n - k) (drop k two)) ++ drop (k + ((n - k) + (length gs - n))) two) r
    ∙ ap (λ ys. others ++ (rest ++ ys) ++ drop (k + ((n - k) + (length gs - n))) two) l ∙ ap (λ ys. others ++ (rest ++ lefts) ++ ys) none
    ∙ append-nil (others ++ (rest ++ lefts)) ∙ sym (append_assoc others rest lefts)

-- ---- where they stood

filter_at : {X : Type 0} (all : List X) (q : ℕ → Bool) (p : X → Bool) → ((i : ℕ) (z : X) → slice_get all i ≡ Some z → q i ≡ p z) → (is : List ℕ) (zs : List X) → AreAt all is zs → AreAt all (filter q is) (filter p zs)
filter_at all q p agree [] [] h = tt
filter_at all q p agree [] (z ∷ zs) h = absurd h
filter_at all q p agree (i ∷ is) [] h = absurd h
filter_at all q p agree (i ∷ is) (z ∷ zs) h = by_test (q i) (p z) (agree i z h.0) (filter_at all q p agree is zs h.1)
  where
    by_test : (s t : Bool) → s ≡ t → AreAt all (filter q is) (filter p zs) → AreAt all (if s then i ∷ filter q is else filter q is) (if t then z ∷ filter p zs else filter p zs)
    by_test true true e k = (h.0, k)
    by_test false false e k = k
    by_test true false e k = cc
    by_test false true e k = cc

abbrev pub order_in : ℕ → List Item → List ℕ
order_in n xs = filter (λ i. not (is_left_at xs i)) (range_with_len 0 n) ++ range_with_len n (length xs - n) ++ filter (is_left_at xs) (range_with_len 0 n)

pub put_at : (n : ℕ) (gs : List hb_glyph_info_t) (xs : List Item) → n ≤ length gs → strip gs ≡ xs → AreAt gs (order_in n xs) (glyphs_put n gs)
put_at n gs xs fits seen =
    let long = length-take-le n gs fits in
    let many : length xs ≡ length gs = sym (ap length seen) ∙ length-map gs item_of in
    let whole = take-append-drop n gs in
    let front : AreAt gs (range_with_len 0 n) (take n gs) =
    subst (λ ys. AreAt ys (range_with_len 0 n) (take n gs)) whole (subst (λ m. AreAt (take n gs ++ drop n gs) (range_with_len 0 m) (take n gs)) long (are_among [] (take n gs) (drop n gs))) in
    let back : AreAt gs (range_with_len n (length xs - n)) (drop n gs) =
    subst (λ ys. AreAt ys (range_with_len n (length xs - n)) (drop n gs)) whole
    (subst (λ m. AreAt (take n gs ++ drop n gs) (range_with_len m (length xs - n)) (drop n gs)) long
    (subst (λ m. AreAt (take n gs ++ drop n gs) (range_with_len (length (take n gs)) m) (drop n gs)) (let last : length (drop n gs) ≡ length xs - n = omega (arith, length-drop n gs, many) in last) (are_all (take n gs) (drop n gs)))) in
    let agrees : (i : ℕ) (g : hb_glyph_info_t) → slice_get gs i ≡ Some g → is_left_at xs i ≡ left g = λ i g e. ap (λ ys. is_left_at ys i) (sym seen) ∙ ap (λ o. option_map_or is_left o false) (got_strip gs i g e) in
    are_both gs (filter (λ i. not (is_left_at xs i)) (range_with_len 0 n) ++ range_with_len n (length xs - n)) (filter other (take n gs) ++ drop n gs) (filter (is_left_at xs) (range_with_len 0 n)) (filter left (take n gs))
    (are_both gs (filter (λ i. not (is_left_at xs i)) (range_with_len 0 n)) (filter other (take n gs)) (range_with_len n (length xs - n)) (drop n gs)
    (filter_at gs (λ i. not (is_left_at xs i)) other (λ i g e. ap not (agrees i g e)) (range_with_len 0 n) (take n gs) front) back)
    (filter_at gs (is_left_at xs) left agrees (range_with_len 0 n) (take n gs) front)

filter_seen : {X Y : Type 0} (f : X → Y) (p : Y → Bool) (xs : List X) → map f (filter (λ x. p (f x)) xs) ≡ filter p (map f xs)
filter_seen f p [] = refl
filter_seen f p (x ∷ xs) = by_test (p (f x)) (filter_seen f p xs)
  where
    by_test : (t : Bool) → map f (filter (λ y. p (f y)) xs) ≡ filter p (map f xs) → map f (if t then x ∷ filter (λ y. p (f y)) xs else filter (λ y. p (f y)) xs) ≡ (if t then f x ∷ filter p (map f xs) else filter p (map f xs))
    by_test true e = ap (λ ys. f x ∷ ys) e
    by_test false e = e

pub put_items : (n : ℕ) (gs : List hb_glyph_info_t) → strip (glyphs_put n gs) ≡ (lefts_last n (strip gs)).items
put_items n gs =
    map-append item_of (filter other (take n gs) ++ drop n gs) (filter left (take n gs)) ∙ ap (λ ys. ys ++ strip (filter left (take n gs))) (map-append item_of (filter other (take n gs)) (drop n gs))
    ∙ ap (λ ys. ys ++ strip (drop n gs) ++ strip (filter left (take n gs))) (filter_seen item_of is_other (take n gs) ∙ ap (filter is_other) (sym (take-map item_of n gs)))
    ∙ ap (λ ys. filter is_other (take n (strip gs)) ++ ys ++ strip (filter left (take n gs))) (sym (drop-map item_of n gs))
    ∙ ap (λ ys. filter is_other (take n (strip gs)) ++ drop n (strip gs) ++ ys) (filter_seen item_of is_left (take n gs) ∙ ap (filter is_left) (sym (take-map item_of n gs)))

pub order_size : (n : ℕ) (xs : List Item) → (gs : List hb_glyph_info_t) → n ≤ length gs → strip gs ≡ xs → length (order_in n xs) ≡ length gs
order_size n xs gs fits seen = sym (Rattle.buffer_stages.proofs.Lemmas.Arranged.at_many gs (order_in n xs) (glyphs_put n gs) (put_at n gs xs fits seen)) ∙ put_size n gs

pub few_others : (n k : ℕ) (gs : List hb_glyph_info_t) → n ≤ length gs → k ≡ length (fronts (pair_seen together) (one_seen is_other) (slice_range gs 0 n)) → k ≤ n
few_others n k gs fits c =
    let cut : slice_range gs 0 n ≡ take n gs = ap (λ m. take m gs) (let same : n - 0 ≡ n = omega arith in same) in
    let count : k ≡ length (reverse (filter other (take n gs))) = c ∙ ap (λ ys. length (fronts (pair_seen together) (one_seen is_other) ys)) cut ∙ ap length (fronts_are (take n gs)) in
    omega (arith, count, length-reverse (filter other (take n gs)), picked_size (take n gs), length-take-le n gs fits)

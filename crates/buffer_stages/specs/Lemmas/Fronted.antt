-- Elements that are moved to the front: by halves, and by moves.
use Rattle.std.proofs.Common.{ℕ, zero, suc, ◌≡◌, ◌≤◌, ◌<◌, ◌+◌, ◌-◌, ◌&&◌, Bool, true, false, nat_lt, if◌then◌else◌, List, [], ◌∷◌, ◌++◌, get_or, length, map, take, drop, arith, refl, ap, sym, ◌∙◌, append_assoc}
use Rattle.std.specs.Prelude.{slice_range}
use Rattle.std.proofs.Math.Seq.{take-append_seam, drop-append_seam}
use Rattle.std.proofs.lemmas.Bool.Decides.{nat_tests}
use Rattle.std.proofs.lemmas.List.{append-nil, map-append, length-append, length-drop, length-take-le, drop-drop, drop-map, take-append-drop, take-map}
use Rattle.buffer_stages.specs.Moves.{IsGrowing, all_moved, with_range_moved, reach}
use Rattle.buffer_stages.specs.Fronts.{fronts, moves_to_front, with_fronts_moved, with_fronts_moved_after, elements_after_fronts}
use Rattle.buffer_stages.specs.Lemmas.Moves.{take_both}
use Rattle.buffer_stages.specs.Lemmas.Nested.{moved_middle}
use Rattle.buffer_lists.proofs.Carried.{two_ranges as range_parts}

-- ---- sizes

gathered_size : {X : Type 0} (pair : X → X → Bool) (one : X → Bool) (xs : List X) → length (fronts pair one xs) + length (elements_after_fronts pair one xs) ≡ length xs
gathered_size pair one [] = refl
gathered_size pair one (x ∷ []) = elim (one x) as (λ t. length (if t then x ∷ [] else []) + length (if t then [] else x ∷ []) ≡ 1) [ true ↦ refl | false ↦ refl ]
gathered_size pair one (x ∷ y ∷ zs) = by_pair (pair x y) (gathered_size pair one zs) (gathered_size pair one (y ∷ zs))
  where
    by_one : (t : Bool) → length (fronts pair one (y ∷ zs)) + length (elements_after_fronts pair one (y ∷ zs)) ≡ suc (length zs)
        → length (if t then fronts pair one (y ∷ zs) ++ (x ∷ []) else fronts pair one (y ∷ zs)) + length (if t then elements_after_fronts pair one (y ∷ zs) else x ∷ elements_after_fronts pair one (y ∷ zs)) ≡ suc (suc (length zs))
    by_one true e = omega (arith, e, length-append (fronts pair one (y ∷ zs)) (x ∷ []))
    by_one false e = omega (arith, e)

    by_pair : (t : Bool) → length (fronts pair one zs) + length (elements_after_fronts pair one zs) ≡ length zs → length (fronts pair one (y ∷ zs)) + length (elements_after_fronts pair one (y ∷ zs)) ≡ suc (length zs)
        → length (if t then fronts pair one zs ++ (x ∷ y ∷ []) else if one x then fronts pair one (y ∷ zs) ++ (x ∷ []) else fronts pair one (y ∷ zs))
        + length (if t then elements_after_fronts pair one zs else if one x then elements_after_fronts pair one (y ∷ zs) else x ∷ elements_after_fronts pair one (y ∷ zs)) ≡ suc (suc (length zs))
    by_pair true e f = omega (arith, e, length-append (fronts pair one zs) (x ∷ y ∷ []))
    by_pair false e f = by_one (one x) f

pub gathered_length : {X : Type 0} (pair : X → X → Bool) (one : X → Bool) (xs : List X) → length (with_fronts_moved pair one xs) ≡ length xs
gathered_length pair one xs = length-append (fronts pair one xs) (elements_after_fronts pair one xs) ∙ gathered_size pair one xs

-- ---- by halves

-- no pair spans the cut
abbrev pub IsApart : {X : Type 0} → (X → X → Bool) → List X → List X → Type 0
IsApart pair [] ys = Unit {0}
IsApart pair (x ∷ []) [] = Unit {0}
IsApart pair (x ∷ []) (y ∷ ys) = pair x y ≡ false
IsApart pair (x ∷ z ∷ xs) ys = IsApart pair (z ∷ xs) ys

apart_rest : {X : Type 0} (pair : X → X → Bool) (x : X) (xs ys : List X) → IsApart pair (x ∷ xs) ys → IsApart pair xs ys
apart_rest pair x [] ys h = tt
apart_rest pair x (z ∷ xs) ys h = h

pub fronts_both : {X : Type 0} (pair : X → X → Bool) (one : X → Bool) (xs ys : List X) → IsApart pair xs ys → fronts pair one (xs ++ ys) ≡ fronts pair one ys ++ fronts pair one xs
fronts_both pair one [] ys h = sym (append-nil (fronts pair one ys))
fronts_both pair one (x ∷ []) [] h = refl
fronts_both pair one (x ∷ []) (y ∷ ys) h =
    let rest = fronts pair one (y ∷ ys) in
    ap (λ t. if t then fronts pair one ys ++ (x ∷ y ∷ []) else if one x then rest ++ (x ∷ []) else rest) h ∙ by_one (one x)
  where
    by_one : (t : Bool) → (if t then fronts pair one (y ∷ ys) ++ (x ∷ []) else fronts pair one (y ∷ ys)) ≡ fronts pair one (y ∷ ys) ++ (if t then x ∷ [] else [])
    by_one true = refl
    by_one false = sym (append-nil (fronts pair one (y ∷ ys)))
fronts_both pair one (x ∷ z ∷ xs) ys h = by_pair (pair x z) (fronts_both pair one xs ys (apart_rest pair z xs ys h)) (fronts_both pair one (z ∷ xs) ys h)
  where
    by_one : (t : Bool) → fronts pair one (z ∷ xs ++ ys) ≡ fronts pair one ys ++ fronts pair one (z ∷ xs)
        → (if t then fronts pair one (z ∷ xs ++ ys) ++ (x ∷ []) else fronts pair one (z ∷ xs ++ ys)) ≡ fronts pair one ys ++ (if t then fronts pair one (z ∷ xs) ++ (x ∷ []) else fronts pair one (z ∷ xs))
    by_one true e = ap (λ ws. ws ++ (x ∷ [])) e ∙ append_assoc (fronts pair one ys) (fronts pair one (z ∷ xs)) (x ∷ [])
    by_one false e = e

    by_pair : (t : Bool) → fronts pair one (xs ++ ys) ≡ fronts pair one ys ++ fronts pair one xs → fronts pair one (z ∷ xs ++ ys) ≡ fronts pair one ys ++ fronts pair one (z ∷ xs)
        → (if t then fronts pair one (xs ++ ys) ++ (x ∷ z ∷ []) else if one x then fronts pair one (z ∷ xs ++ ys) ++ (x ∷ []) else fronts pair one (z ∷ xs ++ ys))
        ≡ fronts pair one ys ++ (if t then fronts pair one xs ++ (x ∷ z ∷ []) else if one x then fronts pair one (z ∷ xs) ++ (x ∷ []) else fronts pair one (z ∷ xs))
    by_pair true e f = ap (λ ws. ws ++ (x ∷ z ∷ [])) e ∙ append_assoc (fronts pair one ys) (fronts pair one xs) (x ∷ z ∷ [])
    by_pair false e f = by_one (one x) f

pub stayed_both : {X : Type 0} (pair : X → X → Bool) (one : X → Bool) (xs ys : List X) → IsApart pair xs ys → elements_after_fronts pair one (xs ++ ys) ≡ elements_after_fronts pair one xs ++ elements_after_fronts pair one ys
stayed_both pair one [] ys h = refl
stayed_both pair one (x ∷ []) [] h = sym (append-nil (elements_after_fronts pair one (x ∷ [])))
stayed_both pair one (x ∷ []) (y ∷ ys) h =
    let rest = elements_after_fronts pair one (y ∷ ys) in
    ap (λ t. if t then elements_after_fronts pair one ys else if one x then rest else x ∷ rest) h ∙ by_one (one x)
  where
    by_one : (t : Bool) → (if t then elements_after_fronts pair one (y ∷ ys) else x ∷ elements_after_fronts pair one (y ∷ ys)) ≡ (if t then [] else x ∷ []) ++ elements_after_fronts pair one (y ∷ ys)
    by_one true = refl
    by_one false = refl
stayed_both pair one (x ∷ z ∷ xs) ys h = by_pair (pair x z) (stayed_both pair one xs ys (apart_rest pair z xs ys h)) (stayed_both pair one (z ∷ xs) ys h)
  where
    by_one : (t : Bool) → elements_after_fronts pair one (z ∷ xs ++ ys) ≡ elements_after_fronts pair one (z ∷ xs) ++ elements_after_fronts pair one ys
        → (if t then elements_after_fronts pair one (z ∷ xs ++ ys) else x ∷ elements_after_fronts pair one (z ∷ xs ++ ys)) ≡ (if t then elements_after_fronts pair one (z ∷ xs) else x ∷ elements_after_fronts pair one (z ∷ xs)) ++ elements_after_fronts pair one ys
    by_one true e = e
    by_one false e = ap (λ ws. x ∷ ws) e

    by_pair : (t : Bool) → elements_after_fronts pair one (xs ++ ys) ≡ elements_after_fronts pair one xs ++ elements_after_fronts pair one ys → elements_after_fronts pair one (z ∷ xs ++ ys) ≡ elements_after_fronts pair one (z ∷ xs) ++ elements_after_fronts pair one ys
        → (if t then elements_after_fronts pair one (xs ++ ys) else if one x then elements_after_fronts pair one (z ∷ xs ++ ys) else x ∷ elements_after_fronts pair one (z ∷ xs ++ ys))
        ≡ (if t then elements_after_fronts pair one xs else if one x then elements_after_fronts pair one (z ∷ xs) else x ∷ elements_after_fronts pair one (z ∷ xs)) ++ elements_after_fronts pair one ys
    by_pair true e f = e
    by_pair false e f = by_one (one x) f

-- a list cut between two that are no pair
pub apart_at : {X : Type 0} (pair : X → X → Bool) (zs : List X) (j : ℕ) (d : X) → suc j < length zs → pair (get_or zs j d) (get_or zs (suc j) d) ≡ false → IsApart pair (take (suc j) zs) (drop (suc j) zs)
apart_at pair [] j d lt e = cc
apart_at pair (x ∷ []) j d lt e = absurd (omega (arith, lt))
apart_at pair (x ∷ y ∷ zs) zero d lt e = e
apart_at pair (x ∷ y ∷ zs) (suc j) d lt e = apart_at pair (y ∷ zs) j d (omega (arith, lt)) e

-- a front, a part that was rewritten, and the rest
pub part_of : {X : Type 0} (from to : ℕ) (xs ys : List X) → from ≤ to → to ≤ length xs → length ys ≡ to - from → (take to (take from xs ++ ys ++ drop to xs) ≡ take from xs ++ ys) × (drop to (take from xs ++ ys ++ drop to xs) ≡ drop to xs)
part_of from to xs ys le fits count =
    let a = length-take-le from xs (omega (arith, le, fits)) in
    let size : length (take from xs ++ ys) ≡ to = omega (arith, length-append (take from xs) ys, a, count, le) in (
      ap (λ n. take n (take from xs ++ ys ++ drop to xs)) (sym size) ∙ take-append_seam (take from xs ++ ys) (drop to xs),
      ap (λ n. drop n (take from xs ++ ys ++ drop to xs)) (sym size) ∙ drop-append_seam (take from xs ++ ys) (drop to xs),
    )

-- both halves were gathered, and the elements at the front of the second were moved to that of both
pub halves_gathered : {X : Type 0} (pair : X → X → Bool) (one : X → Bool) (from middle to k : ℕ) (old first second new : List X) → from ≤ middle → middle ≤ to → to ≤ length old
    → IsApart pair (slice_range old from middle) (slice_range old middle to)
    → first ≡ take from old ++ with_fronts_moved pair one (slice_range old from middle) ++ drop middle old
    → second ≡ take middle first ++ with_fronts_moved pair one (slice_range first middle to) ++ drop to first
    → k ≡ length (fronts pair one (slice_range first middle to))
    → new ≡ with_range_moved from (middle - from) k second
    → (new ≡ take from old ++ with_fronts_moved pair one (slice_range old from to) ++ drop to old) × (length (fronts pair one (slice_range old from to)) ≡ length (fronts pair one (slice_range old from middle)) + k)
halves_gathered {X = X} pair one from middle to k old first second new le last fits apart e f count is =
    let xs = slice_range old from middle in
    let ys = slice_range old middle to in
    let pre = take from old in
    let gs = with_fronts_moved pair one xs in
    let fs = fronts pair one ys in
    let ss = elements_after_fronts pair one ys in
    let post = drop to old in
    let size_x : length xs ≡ middle - from = length-take-le (middle - from) (drop from old) (omega (arith, le, last, fits, length-drop from old)) in
    let size_g : length gs ≡ middle - from = gathered_length pair one xs ∙ size_x in
    let cut = part_of from middle old gs le (omega (arith, last, fits)) size_g in
    let front : take middle first ≡ pre ++ gs = ap (take middle) e ∙ cut.0 in
    let behind : drop middle first ≡ drop middle old = ap (drop middle) e ∙ cut.1 in
    let seen : slice_range first middle to ≡ ys = ap (take (to - middle)) behind in
    let step : to - middle + middle ≡ to = omega (arith, last) in
    let there : middle + (to - middle) ≡ to = omega (arith, last) in
    let rest : drop to first ≡ post =
    ap (λ m. drop m first) (sym there) ∙ sym (drop-drop (to - middle) middle first) ∙ ap (drop (to - middle)) behind ∙ drop-drop (to - middle) middle old ∙ ap (λ m. drop m old) there in
    let laid : second ≡ (pre ++ gs) ++ (fs ++ ss) ++ post =
    f ∙ ap (λ zs. zs ++ with_fronts_moved pair one (slice_range first middle to) ++ drop to first) front ∙ ap (λ zs. (pre ++ gs) ++ with_fronts_moved pair one zs ++ drop to first) seen ∙ ap (λ zs. (pre ++ gs) ++ (fs ++ ss) ++ zs) rest in
    let shape : second ≡ pre ++ ((gs ++ (fs ++ ss)) ++ post) = laid ∙ regrouped pre gs (fs ++ ss) post in
    let many : k ≡ length fs = count ∙ ap (λ zs. length (fronts pair one zs)) seen in
    let a : length pre ≡ from = length-take-le from old (omega (arith, le, last, fits)) in
    let turned : with_range_moved from (middle - from) k second ≡ pre ++ ((fs ++ (gs ++ ss)) ++ post) =
    ap (with_range_moved from (middle - from) k) shape
    ∙ ap (λ i. with_range_moved i (middle - from) k (pre ++ ((gs ++ (fs ++ ss)) ++ post))) (sym a)
    ∙ ap (λ i. with_range_moved (length pre) i k (pre ++ ((gs ++ (fs ++ ss)) ++ post))) (sym size_g)
    ∙ ap (λ i. with_range_moved (length pre) (length gs) i (pre ++ ((gs ++ (fs ++ ss)) ++ post))) many
    ∙ moved_middle pre gs fs ss post in
    let parts = range_parts from middle to old le last in
    let all_fronts : fronts pair one (slice_range old from to) ≡ fs ++ fronts pair one xs = ap (fronts pair one) parts ∙ fronts_both pair one xs ys apart in
    let all_stayed : elements_after_fronts pair one (slice_range old from to) ≡ elements_after_fronts pair one xs ++ ss = ap (elements_after_fronts pair one) parts ∙ stayed_both pair one xs ys apart in
    let whole : with_fronts_moved pair one (slice_range old from to) ≡ fs ++ (gs ++ ss) =
    ap (λ zs. zs ++ elements_after_fronts pair one (slice_range old from to)) all_fronts ∙ ap (λ zs. (fs ++ fronts pair one xs) ++ zs) all_stayed ∙ joined fs (fronts pair one xs) (elements_after_fronts pair one xs) ss in (
      is ∙ turned ∙ sym (append_assoc pre (fs ++ (gs ++ ss)) post) ∙ ap (λ zs. pre ++ zs ++ post) (sym whole),
      ap length all_fronts ∙ length-append fs (fronts pair one xs) ∙ omega (arith, many),
    )
  where
    regrouped : (ws bs cs ds : List X) → (ws ++ bs) ++ cs ++ ds ≡ ws ++ ((bs ++ cs) ++ ds)
    regrouped ws bs cs ds = simp append_assoc

    joined : (ws bs cs ds : List X) → (ws ++ bs) ++ (cs ++ ds) ≡ ws ++ ((bs ++ cs) ++ ds)
    joined ws bs cs ds = simp append_assoc

-- ---- after others

pub after_gathered : {X : Type 0} (pair : X → X → Bool) (one : X → Bool) (start begin end k m : ℕ) (old first new : List X) → start ≤ begin → begin ≤ end → end ≤ length old
    → first ≡ take begin old ++ with_fronts_moved pair one (slice_range old begin end) ++ drop end old → k ≡ length (fronts pair one (slice_range old begin end)) → m ≡ k
    → new ≡ with_range_moved start (begin - start) m first → new ≡ take start old ++ with_fronts_moved_after pair one (begin - start) (slice_range old start end) ++ drop end old
after_gathered {X = X} pair one start begin end k m old first new le last fits e count same is =
    let n = begin - start in
    let pre = take start old in
    let ms = slice_range old start begin in
    let zs = slice_range old begin end in
    let fs = fronts pair one zs in
    let ss = elements_after_fronts pair one zs in
    let post = drop end old in
    let xs = slice_range old start end in
    let at : start + n ≡ begin = omega (arith, le) in
    let total : end - start ≡ n + (end - begin) = omega (arith, le, last) in
    let parts = range_parts start begin end old le last in
    let size_m : length ms ≡ n = length-take-le n (drop start old) (omega (arith, le, last, fits, length-drop start old)) in
    let a : length pre ≡ start = length-take-le start old (omega (arith, le, last, fits)) in
    let front : take begin old ≡ pre ++ ms = ap (λ i. take i old) (sym at) ∙ take_both start n old in
    let shape : first ≡ pre ++ ((ms ++ (fs ++ ss)) ++ post) = e ∙ ap (λ ys. ys ++ (fs ++ ss) ++ post) front ∙ regrouped pre ms (fs ++ ss) post in
    let turned : with_range_moved start n m first ≡ pre ++ ((fs ++ (ms ++ ss)) ++ post) =
    ap (with_range_moved start n m) shape
    ∙ ap (λ i. with_range_moved i n m (pre ++ ((ms ++ (fs ++ ss)) ++ post))) (sym a)
    ∙ ap (λ i. with_range_moved (length pre) i m (pre ++ ((ms ++ (fs ++ ss)) ++ post))) (sym size_m)
    ∙ ap (λ i. with_range_moved (length pre) (length ms) i (pre ++ ((ms ++ (fs ++ ss)) ++ post))) (same ∙ count)
    ∙ moved_middle pre ms fs ss post in
    let front_is : take n xs ≡ ms = ap (take n) parts ∙ ap (λ i. take i (ms ++ zs)) (sym size_m) ∙ take-append_seam ms zs in
    let back_is : drop n xs ≡ zs = ap (drop n) parts ∙ ap (λ i. drop i (ms ++ zs)) (sym size_m) ∙ drop-append_seam ms zs in
    let whole : with_fronts_moved_after pair one n xs ≡ fs ++ (ms ++ ss) = ap (λ ys. fronts pair one ys ++ (take n xs ++ elements_after_fronts pair one ys)) back_is ∙ ap (λ ys. fs ++ (ys ++ ss)) front_is in
    is ∙ turned ∙ sym (append_assoc pre (fs ++ (ms ++ ss)) post) ∙ ap (λ ys. pre ++ ys ++ post) (sym whole)
  where
    regrouped : (ws bs cs ds : List X) → (ws ++ bs) ++ cs ++ ds ≡ ws ++ ((bs ++ cs) ++ ds)
    regrouped ws bs cs ds = simp append_assoc

pub gathered_after_length : {X : Type 0} (pair : X → X → Bool) (one : X → Bool) (n : ℕ) (xs : List X) → length (with_fronts_moved_after pair one n xs) ≡ length xs
gathered_after_length pair one n xs =
    let ys = drop n xs in
    let whole = ap length (take-append-drop n xs) in
    omega (arith, gathered_size pair one ys, whole, length-append (take n xs) ys, length-append (fronts pair one ys) (take n xs ++ elements_after_fronts pair one ys), length-append (take n xs) (elements_after_fronts pair one ys))

-- ---- by moves

pub moved_one : {X : Type 0} (pre front : List X) (x : X) (rest : List X) → with_range_moved (length pre) (length front) 1 (pre ++ (front ++ x ∷ rest)) ≡ pre ++ ((x ∷ front) ++ rest)
moved_one pre front x rest = ap (λ ys. with_range_moved (length pre) (length front) 1 (pre ++ ys)) (sym (append_assoc front (x ∷ []) rest) ∙ ap (λ ys. (front ++ ys) ++ rest) (sym (append-nil (x ∷ [])))) ∙ moved_middle pre front (x ∷ []) [] rest ∙ ap (λ ys. pre ++ ((x ∷ ys) ++ rest)) (append-nil front)

pub moved_two : {X : Type 0} (pre front : List X) (x y : X) (rest : List X) → with_range_moved (length pre) (length front) 2 (pre ++ (front ++ x ∷ y ∷ rest)) ≡ pre ++ ((x ∷ y ∷ front) ++ rest)
moved_two pre front x y rest = ap (λ ys. with_range_moved (length pre) (length front) 2 (pre ++ ys)) (sym (append_assoc front (x ∷ y ∷ []) rest) ∙ ap (λ ys. (front ++ ys) ++ rest) (sym (append-nil (x ∷ y ∷ [])))) ∙ moved_middle pre front (x ∷ y ∷ []) [] rest ∙ ap (λ ys. pre ++ ((x ∷ y ∷ ys) ++ rest)) (append-nil front)

-- elements between a front and a rest: their moves gather them
pub all_moved_fronts : {X : Type 0} (pair : X → X → Bool) (one : X → Bool) (pre front zs post : List X)
    → all_moved (length pre) (moves_to_front pair one (length front) zs) (pre ++ (front ++ (zs ++ post))) ≡ pre ++ ((fronts pair one zs ++ (front ++ elements_after_fronts pair one zs)) ++ post)
all_moved_fronts {X = X} pair one pre front zs post = by_list zs front
  where
    Moves : List X → List X → Type 0
    Moves ws f = all_moved (length pre) (moves_to_front pair one (length f) ws) (pre ++ (f ++ (ws ++ post))) ≡ pre ++ ((fronts pair one ws ++ (f ++ elements_after_fronts pair one ws)) ++ post)

    nested : (fs f g ss : List X) → (fs ++ g) ++ (f ++ ss) ≡ fs ++ (g ++ f ++ ss)
    nested fs f g ss = simp append_assoc

    one_alone : (x : X) (ws f : List X) → Moves ws (f ++ x ∷ [])
        → all_moved (length pre) (moves_to_front pair one (length f + 1) ws) (pre ++ (f ++ (x ∷ ws ++ post))) ≡ pre ++ ((fronts pair one ws ++ (f ++ (x ∷ elements_after_fronts pair one ws))) ++ post)
    one_alone x ws f h =
        ap (λ ys. all_moved (length pre) (moves_to_front pair one (length f + 1) ws) (pre ++ ys)) (sym (append_assoc f (x ∷ []) (ws ++ post)))
        ∙ ap (λ n. all_moved (length pre) (moves_to_front pair one n ws) (pre ++ ((f ++ x ∷ []) ++ (ws ++ post)))) (sym (length-append f (x ∷ [])))
        ∙ h ∙ ap (λ ys. pre ++ ((fronts pair one ws ++ ys) ++ post)) (append_assoc f (x ∷ []) (elements_after_fronts pair one ws))

    one_first : (x : X) (ws f : List X) → Moves ws (x ∷ f)
        → all_moved (length pre) (moves_to_front pair one (length f + 1) ws) (pre ++ ((x ∷ f) ++ (ws ++ post))) ≡ pre ++ (((fronts pair one ws ++ (x ∷ [])) ++ (f ++ elements_after_fronts pair one ws)) ++ post)
    one_first x ws f h =
        let more : length f + 1 ≡ suc (length f) = omega arith in
        ap (λ n. all_moved (length pre) (moves_to_front pair one n ws) (pre ++ ((x ∷ f) ++ (ws ++ post)))) more
        ∙ h ∙ ap (λ ys. pre ++ (ys ++ post)) (sym (nested (fronts pair one ws) f (x ∷ []) (elements_after_fronts pair one ws)))

    by_front : (x : X) (ws f : List X) → ((g : List X) → Moves ws g) → (b : Bool) → nat_lt 0 (length f) ≡ b
        → all_moved (length pre) (if b then record { passed = length f; taken = 1 } ∷ moves_to_front pair one (length f + 1) ws else moves_to_front pair one (length f + 1) ws) (pre ++ (f ++ (x ∷ ws ++ post)))
        ≡ pre ++ (((fronts pair one ws ++ (x ∷ [])) ++ (f ++ elements_after_fronts pair one ws)) ++ post)
    by_front x ws f ih true e = ap (all_moved (length pre) (moves_to_front pair one (length f + 1) ws)) (moved_one pre f x (ws ++ post)) ∙ one_first x ws f (ih (x ∷ f))
    by_front x ws [] ih false e = one_first x ws [] (ih (x ∷ []))
    by_front x ws (g ∷ gs) ih false e = absurd (let none : length (g ∷ gs) ≤ 0 = grind (arith, nat_tests, e) in omega (arith, none))

    by_one : (x : X) (ws f : List X) → ((g : List X) → Moves ws g) → (t : Bool)
        → all_moved (length pre) (if t && nat_lt 0 (length f) then record { passed = length f; taken = 1 } ∷ moves_to_front pair one (length f + 1) ws else moves_to_front pair one (length f + 1) ws) (pre ++ (f ++ (x ∷ ws ++ post)))
        ≡ pre ++ (((if t then fronts pair one ws ++ (x ∷ []) else fronts pair one ws) ++ (f ++ (if t then elements_after_fronts pair one ws else x ∷ elements_after_fronts pair one ws))) ++ post)
    by_one x ws f ih true = by_front x ws f ih (nat_lt 0 (length f)) refl
    by_one x ws f ih false = one_alone x ws f (ih (f ++ x ∷ []))

    by_pair : (x y : X) (ws f : List X) → ((g : List X) → Moves ws g) → ((g : List X) → Moves (y ∷ ws) g) → (t : Bool)
        → all_moved (length pre) (if t then record { passed = length f; taken = 2 } ∷ moves_to_front pair one (length f + 2) ws
        else if one x && nat_lt 0 (length f) then record { passed = length f; taken = 1 } ∷ moves_to_front pair one (length f + 1) (y ∷ ws) else moves_to_front pair one (length f + 1) (y ∷ ws)) (pre ++ (f ++ (x ∷ y ∷ ws ++ post)))
        ≡ pre ++ (((if t then fronts pair one ws ++ (x ∷ y ∷ []) else if one x then fronts pair one (y ∷ ws) ++ (x ∷ []) else fronts pair one (y ∷ ws))
        ++ (f ++ (if t then elements_after_fronts pair one ws else if one x then elements_after_fronts pair one (y ∷ ws) else x ∷ elements_after_fronts pair one (y ∷ ws)))) ++ post)
    by_pair x y ws f ih next true =
        let more : length f + 2 ≡ suc (suc (length f)) = omega arith in
        ap (all_moved (length pre) (moves_to_front pair one (length f + 2) ws)) (moved_two pre f x y (ws ++ post))
        ∙ ap (λ n. all_moved (length pre) (moves_to_front pair one n ws) (pre ++ ((x ∷ y ∷ f) ++ (ws ++ post)))) more
        ∙ ih (x ∷ y ∷ f) ∙ ap (λ ys. pre ++ (ys ++ post)) (sym (nested (fronts pair one ws) f (x ∷ y ∷ []) (elements_after_fronts pair one ws)))
    by_pair x y ws f ih next false = by_one x (y ∷ ws) f next (one x)

    by_list : (ws f : List X) → Moves ws f
    by_list [] f = ap (λ ys. pre ++ (ys ++ post)) (sym (append-nil f))
    by_list (x ∷ []) f = by_one x [] f (by_list []) (one x)
    by_list (x ∷ y ∷ ws) f = by_pair x y ws f (by_list ws) (by_list (y ∷ ws)) (pair x y)

pub moves_grow : {X : Type 0} (pair : X → X → Bool) (one : X → Bool) (n i : ℕ) (zs : List X) → n ≤ i + 1 → IsGrowing n (moves_to_front pair one i zs)
moves_grow pair one n i [] le = tt
moves_grow pair one n i (x ∷ []) le = by_one (one x && nat_lt 0 i)
  where
    by_one : (t : Bool) → IsGrowing n (if t then record { passed = i; taken = 1 } ∷ [] else [])
    by_one true = (le, tt)
    by_one false = tt
moves_grow pair one n i (x ∷ y ∷ zs) le = by_pair (pair x y) (moves_grow pair one (i + 2) (i + 2) zs (omega arith)) (moves_grow pair one (i + 1) (i + 1) (y ∷ zs) (omega arith)) (moves_grow pair one n (i + 1) (y ∷ zs) (omega (arith, le)))
  where
    by_one : (t : Bool) → IsGrowing (i + 1) (moves_to_front pair one (i + 1) (y ∷ zs)) → IsGrowing n (moves_to_front pair one (i + 1) (y ∷ zs))
        → IsGrowing n (if t then record { passed = i; taken = 1 } ∷ moves_to_front pair one (i + 1) (y ∷ zs) else moves_to_front pair one (i + 1) (y ∷ zs))
    by_one true a b = (le, a)
    by_one false a b = b

    by_pair : (t : Bool) → IsGrowing (i + 2) (moves_to_front pair one (i + 2) zs) → IsGrowing (i + 1) (moves_to_front pair one (i + 1) (y ∷ zs)) → IsGrowing n (moves_to_front pair one (i + 1) (y ∷ zs))
        → IsGrowing n (if t then record { passed = i; taken = 2 } ∷ moves_to_front pair one (i + 2) zs
        else if one x && nat_lt 0 i then record { passed = i; taken = 1 } ∷ moves_to_front pair one (i + 1) (y ∷ zs) else moves_to_front pair one (i + 1) (y ∷ zs))
    by_pair true c a b = (omega (arith, le), c)
    by_pair false c a b = by_one (one x && nat_lt 0 i) a b

pub reach_fits : {X : Type 0} (pair : X → X → Bool) (one : X → Bool) (n i : ℕ) (zs : List X) → n ≤ i + length zs → reach n (moves_to_front pair one i zs) ≤ i + length zs
reach_fits pair one n i [] le = le
reach_fits pair one n i (x ∷ []) le = by_one (one x && nat_lt 0 i)
  where
    by_one : (t : Bool) → reach n (if t then record { passed = i; taken = 1 } ∷ [] else []) ≤ i + 1
    by_one true = omega arith
    by_one false = le
reach_fits pair one n i (x ∷ y ∷ zs) le = by_pair (pair x y) (reach_fits pair one (i + 2) (i + 2) zs (omega arith)) (reach_fits pair one (i + 1) (i + 1) (y ∷ zs) (omega arith)) (reach_fits pair one n (i + 1) (y ∷ zs) (omega (arith, le)))
  where
    by_one : (t : Bool) → reach (i + 1) (moves_to_front pair one (i + 1) (y ∷ zs)) ≤ i + 1 + length (y ∷ zs) → reach n (moves_to_front pair one (i + 1) (y ∷ zs)) ≤ i + 1 + length (y ∷ zs)
        → reach n (if t then record { passed = i; taken = 1 } ∷ moves_to_front pair one (i + 1) (y ∷ zs) else moves_to_front pair one (i + 1) (y ∷ zs)) ≤ i + length (x ∷ y ∷ zs)
    by_one true a b = omega (arith, a)
    by_one false a b = omega (arith, b)

    by_pair : (t : Bool) → reach (i + 2) (moves_to_front pair one (i + 2) zs) ≤ i + 2 + length zs → reach (i + 1) (moves_to_front pair one (i + 1) (y ∷ zs)) ≤ i + 1 + length (y ∷ zs)
        → reach n (moves_to_front pair one (i + 1) (y ∷ zs)) ≤ i + 1 + length (y ∷ zs)
        → reach n (if t then record { passed = i; taken = 2 } ∷ moves_to_front pair one (i + 2) zs
        else if one x && nat_lt 0 i then record { passed = i; taken = 1 } ∷ moves_to_front pair one (i + 1) (y ∷ zs) else moves_to_front pair one (i + 1) (y ∷ zs)) ≤ i + length (x ∷ y ∷ zs)
    by_pair true c a b = omega (arith, c)
    by_pair false c a b = by_one (one x && nat_lt 0 i) a b

-- ---- what is seen of elements

pub fronts_seen : {X Y : Type 0} (f : X → Y) (pair : Y → Y → Bool) (one : Y → Bool) (xs : List X) → map f (fronts (λ a b. pair (f a) (f b)) (λ a. one (f a)) xs) ≡ fronts pair one (map f xs)
fronts_seen f pair one [] = refl
fronts_seen f pair one (x ∷ []) = elim (one (f x)) as (λ t. map f (if t then x ∷ [] else []) ≡ (if t then f x ∷ [] else [])) [ true ↦ refl | false ↦ refl ]
fronts_seen {X = X} {Y = Y} f pair one (x ∷ y ∷ zs) = by_pair (pair (f x) (f y)) _ _ _ _ (fronts_seen f pair one zs) (fronts_seen f pair one (y ∷ zs))
  where
    by_one : (t : Bool) (us : List X) (vs : List Y) → map f us ≡ vs → map f (if t then us ++ (x ∷ []) else us) ≡ (if t then vs ++ (f x ∷ []) else vs)
    by_one true us vs e = map-append f us (x ∷ []) ∙ ap (λ ws. ws ++ (f x ∷ [])) e
    by_one false us vs e = e

    by_pair : (t : Bool) (us ws : List X) (vs zs' : List Y) → map f us ≡ vs → map f ws ≡ zs'
        → map f (if t then us ++ (x ∷ y ∷ []) else if one (f x) then ws ++ (x ∷ []) else ws) ≡ (if t then vs ++ (f x ∷ f y ∷ []) else if one (f x) then zs' ++ (f x ∷ []) else zs')
    by_pair true us ws vs zs' e g = map-append f us (x ∷ y ∷ []) ∙ ap (λ ws. ws ++ (f x ∷ f y ∷ [])) e
    by_pair false us ws vs zs' e g = by_one (one (f x)) ws zs' g

pub stayed_seen : {X Y : Type 0} (f : X → Y) (pair : Y → Y → Bool) (one : Y → Bool) (xs : List X) → map f (elements_after_fronts (λ a b. pair (f a) (f b)) (λ a. one (f a)) xs) ≡ elements_after_fronts pair one (map f xs)
stayed_seen f pair one [] = refl
stayed_seen f pair one (x ∷ []) = elim (one (f x)) as (λ t. map f (if t then [] else x ∷ []) ≡ (if t then [] else f x ∷ [])) [ true ↦ refl | false ↦ refl ]
stayed_seen {X = X} {Y = Y} f pair one (x ∷ y ∷ zs) = by_pair (pair (f x) (f y)) _ _ _ _ (stayed_seen f pair one zs) (stayed_seen f pair one (y ∷ zs))
  where
    by_one : (t : Bool) (us : List X) (vs : List Y) → map f us ≡ vs → map f (if t then us else x ∷ us) ≡ (if t then vs else f x ∷ vs)
    by_one true us vs e = e
    by_one false us vs e = ap (λ ws. f x ∷ ws) e

    by_pair : (t : Bool) (us ws : List X) (vs zs' : List Y) → map f us ≡ vs → map f ws ≡ zs'
        → map f (if t then us else if one (f x) then ws else x ∷ ws) ≡ (if t then vs else if one (f x) then zs' else f x ∷ zs')
    by_pair true us ws vs zs' e g = e
    by_pair false us ws vs zs' e g = by_one (one (f x)) ws zs' g

pub gathered_after_seen : {X Y : Type 0} (f : X → Y) (pair : Y → Y → Bool) (one : Y → Bool) (n : ℕ) (xs : List X) → map f (with_fronts_moved_after (λ a b. pair (f a) (f b)) (λ a. one (f a)) n xs) ≡ with_fronts_moved_after pair one n (map f xs)
gathered_after_seen {X = X} f pair one n xs =
    let p : X → X → Bool = λ a b. pair (f a) (f b) in
    let o : X → Bool = λ a. one (f a) in
    let ys = drop n xs in
    let fs : map f (fronts p o ys) ≡ fronts pair one (drop n (map f xs)) = fronts_seen f pair one ys ∙ ap (fronts pair one) (sym (drop-map f n xs)) in
    let ss : map f (elements_after_fronts p o ys) ≡ elements_after_fronts pair one (drop n (map f xs)) = stayed_seen f pair one ys ∙ ap (elements_after_fronts pair one) (sym (drop-map f n xs)) in
    map-append f (fronts p o ys) (take n xs ++ elements_after_fronts p o ys) ∙ ap (λ zs. map f (fronts p o ys) ++ zs) (map-append f (take n xs) (elements_after_fronts p o ys))
    ∙ ap (λ zs. zs ++ (map f (take n xs) ++ map f (elements_after_fronts p o ys))) fs ∙ ap (λ zs. fronts pair one (drop n (map f xs)) ++ (zs ++ map f (elements_after_fronts p o ys))) (sym (take-map f n xs)) ∙ ap (λ zs. fronts pair one (drop n (map f xs)) ++ (take n (map f xs) ++ zs)) ss

pub moves_seen : {X Y : Type 0} (f : X → Y) (pair : Y → Y → Bool) (one : Y → Bool) (i : ℕ) (xs : List X) → moves_to_front (λ a b. pair (f a) (f b)) (λ a. one (f a)) i xs ≡ moves_to_front pair one i (map f xs)
moves_seen f pair one i [] = refl
moves_seen f pair one i (x ∷ []) = refl
moves_seen f pair one i (x ∷ y ∷ zs) = rw (moves_seen f pair one (i + 2) zs, moves_seen f pair one (i + 1) (y ∷ zs)) refl

-- ---- short lists

pub short_gathered : {X : Type 0} (pair : X → X → Bool) (one : X → Bool) (xs : List X) → length xs < 2 → with_fronts_moved pair one xs ≡ xs
short_gathered pair one [] lt = refl
short_gathered pair one (x ∷ []) lt = elim (one x) as (λ t. (if t then x ∷ [] else []) ++ (if t then [] else x ∷ []) ≡ x ∷ []) [ true ↦ refl | false ↦ refl ]
short_gathered pair one (x ∷ y ∷ zs) lt = absurd (omega (arith, lt))

pub two_gathered : {X : Type 0} (pair : X → X → Bool) (one : X → Bool) (xs : List X) (d : X) → length xs ≡ 2 → pair (get_or xs 0 d) (get_or xs 1 d) ≡ true
    → (with_fronts_moved pair one xs ≡ xs) × (length (fronts pair one xs) ≡ 2)
two_gathered pair one [] d e h = absurd (omega (arith, e))
two_gathered pair one (x ∷ []) d e h = absurd (omega (arith, e))
two_gathered pair one (x ∷ y ∷ []) d e h = (
  ap (λ t. (if t then x ∷ y ∷ [] else if one x then fronts pair one (y ∷ []) ++ (x ∷ []) else fronts pair one (y ∷ [])) ++ (if t then [] else if one x then elements_after_fronts pair one (y ∷ []) else x ∷ elements_after_fronts pair one (y ∷ []))) h,
  ap (λ t. length (if t then x ∷ y ∷ [] else if one x then fronts pair one (y ∷ []) ++ (x ∷ []) else fronts pair one (y ∷ []))) h,
)
two_gathered pair one (x ∷ y ∷ z ∷ zs) d e h = absurd (omega (arith, e))

-- ---- alone

abbrev pub no_pair : {X : Type 0} → X → X → Bool
no_pair x y = false

pub moves_alone : {X : Type 0} (one : X → Bool) (i : ℕ) (x : X) (zs : List X)
    → moves_to_front no_pair one i (x ∷ zs) ≡ (if one x && nat_lt 0 i then record { passed = i; taken = 1 } ∷ moves_to_front no_pair one (i + 1) zs else moves_to_front no_pair one (i + 1) zs)
moves_alone one i x [] = refl
moves_alone one i x (y ∷ zs) = refl

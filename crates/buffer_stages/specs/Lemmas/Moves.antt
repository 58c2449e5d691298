-- A range that moved.
use Rattle.std.proofs.Common.{ℕ, ◌≡◌, ◌≤◌, ◌+◌, ◌-◌, List, [], ◌∷◌, ◌++◌, Some, slice_get, length, map, take, drop, arith, refl, ap, sym, subst, ◌∙◌, append_assoc}
use Rattle.std.specs.List.{range_with_len}
use Rattle.std.proofs.lemmas.List.{drop-drop, length-append, length-drop, length-take-le, take-map, drop-map, map-append}
use Rattle.std.proofs.lemmas.List.FromFn.{length-range_with_len}
use Rattle.buffer_glyphs.specs.Origins.{with_range_arranged}
use Rattle.buffer_lists.specs.Lemmas.Picked.{AreAt, are_all, arranged_as, got_after as got_among, are_both}
pub use Rattle.buffer_lists.proofs.Carried.{take_sum as take_both}
pub use Rattle.buffer_core.proofs.RangeMoves.{take_front, drop_front, part_moved, moved_length, moved_front}
use Rattle.buffer_stages.specs.Moves.{with_range_moved, order_of_move}

-- elements between others, at their indices
pub are_among : {X : Type 0} (front xs back : List X) → AreAt (front ++ (xs ++ back)) (range_with_len (length front) (length xs)) xs
are_among front [] back = tt
are_among front (x ∷ xs) back =
    let rest = are_among (front ++ x ∷ []) xs back in
    let long : length (front ++ x ∷ []) ≡ length front + 1 = length-append front (x ∷ []) in
    let at : AreAt ((front ++ x ∷ []) ++ (xs ++ back)) (range_with_len (length front + 1) (length xs)) xs = subst (λ n. AreAt ((front ++ x ∷ []) ++ (xs ++ back)) (range_with_len n (length xs)) xs) long rest in
    (got_among front x (xs ++ back), subst (λ ys. AreAt ys (range_with_len (length front + 1) (length xs)) xs) (append_assoc front (x ∷ []) (xs ++ back)) at)

pub order_long : (n k : ℕ) → length (order_of_move n k) ≡ n + k
order_long n k = (let a = length-range_with_len n k in let b = length-range_with_len 0 n in omega (arith, a, b, length-append (range_with_len n k) (range_with_len 0 n)))

-- an order of a move moves
pub arranged_moved : {X : Type 0} (start n k : ℕ) (xs : List X) → start + (n + k) ≤ length xs → with_range_arranged start (order_of_move n k) xs ≡ with_range_moved start n k xs
arranged_moved start n k xs le =
    let ys = drop start xs in
    let long : length ys ≡ length xs - start = length-drop start xs in
    let a : length (take n ys) ≡ n = length-take-le n ys (omega (arith, long, le)) in
    let b : length (take k (drop n ys)) ≡ k = length-take-le k (drop n ys) (omega (arith, long, le, length-drop n ys)) in
    let first : AreAt (take n ys ++ take k (drop n ys)) (range_with_len n k) (take k (drop n ys)) =
    subst (λ m. AreAt (take n ys ++ take k (drop n ys)) (range_with_len m k) (take k (drop n ys))) a
    (subst (λ m. AreAt (take n ys ++ take k (drop n ys)) (range_with_len (length (take n ys)) m) (take k (drop n ys))) b (are_all (take n ys) (take k (drop n ys)))) in
    let second : AreAt (take n ys ++ take k (drop n ys)) (range_with_len 0 n) (take n ys) =
    subst (λ m. AreAt (take n ys ++ take k (drop n ys)) (range_with_len 0 m) (take n ys)) a (are_among [] (take n ys) (take k (drop n ys))) in
    let both = are_both (take n ys ++ take k (drop n ys)) (range_with_len n k) (take k (drop n ys)) (range_with_len 0 n) (take n ys) first second in
    let order = order_of_move n k in
    let there : AreAt (take (length order) ys) order (take k (drop n ys) ++ take n ys) =
    subst (λ all. AreAt all order (take k (drop n ys) ++ take n ys)) (sym (ap (λ m. take m ys) (order_long n k) ∙ take_both n k ys)) both in
    arranged_as start order (take k (drop n ys) ++ take n ys) xs there (omega (arith, order_long n k, le))
    ∙ ap (λ m. take start xs ++ (take k (drop n ys) ++ take n ys) ++ drop (start + m) xs) (order_long n k)
    ∙ ap (λ zs. take start xs ++ (take k zs ++ take n ys) ++ drop (start + (n + k)) xs) (drop-drop n start xs)

pub moved_seen : {X Y : Type 0} (f : X → Y) (start n k : ℕ) (xs : List X) → map f (with_range_moved start n k xs) ≡ with_range_moved start n k (map f xs)
moved_seen f start n k xs = simp (map-append, take-map, drop-map)

-- A range that moves after the elements that follow it.
use Rattle.std.proofs.Common.{ℕ, zero, suc, ◌≡◌, ◌≤◌, ◌+◌, List, [], ◌∷◌, ◌++◌, length, take, drop, arith, refl, ap, sym, ◌∙◌, append_assoc}
use borrow.Rule.Slice.PartMut.{put_mid}
use Rattle.std.proofs.lemmas.List.{drop-drop, drop-append-le, take-append-le, length-append, length-drop, length-take-le}
use Rattle.buffer_core.specs.Moving.{with_range_moved}
use Rattle.buffer_lists.proofs.Fronts.{none as nothing}
use Rattle.buffer_lists.proofs.Carried.{take_sum as take_both}

pub take_front : {X : Type 0} (xs ys : List X) → take (length xs) (xs ++ ys) ≡ xs
take_front [] ys = refl
take_front (x ∷ xs) ys = ap (λ zs. x ∷ zs) (take_front xs ys)

pub drop_front : {X : Type 0} (xs ys : List X) → drop (length xs) (xs ++ ys) ≡ ys
drop_front [] ys = refl
drop_front (x ∷ xs) ys = drop_front xs ys

pub part_moved : {X : Type 0} (start n k m : ℕ) (xs ys : List X) → m ≡ n + k → start + (n + k) ≤ length xs → ys ≡ drop n (take m (drop start xs)) ++ take n (take m (drop start xs)) → put_mid start m xs ys ≡ with_range_moved start n k xs
part_moved start n k m xs ys at le e =
    let zs = drop start xs in
    let a : length (take n zs) ≡ n = length-take-le n zs (omega (arith, length-drop start xs, le)) in
    let cut : take m zs ≡ take n zs ++ take k (drop n zs) = ap (λ j. take j zs) at ∙ take_both n k zs in
    let back : drop n (take m zs) ≡ take k (drop (start + n) xs) =
    ap (drop n) cut ∙ ap (λ j. drop j (take n zs ++ take k (drop n zs))) (sym a) ∙ drop_front (take n zs) (take k (drop n zs)) ∙ ap (take k) (drop-drop n start xs) in
    let front : take n (take m zs) ≡ take n zs = ap (take n) cut ∙ ap (λ j. take j (take n zs ++ take k (drop n zs))) (sym a) ∙ take_front (take n zs) (take k (drop n zs)) in
    ap (λ ws. put_mid start m xs ws) (e ∙ ap (λ ws. ws ++ take n (take m zs)) back ∙ ap (λ ws. take k (drop (start + n) xs) ++ ws) front)
    ∙ ap (λ ws. take start xs ++ ((take k (drop (start + n) xs) ++ take n zs) ++ ws)) (drop-drop m start xs ∙ ap (λ j. drop (start + j) xs) at)
    ∙ sym (append_assoc (take start xs) (take k (drop (start + n) xs) ++ take n zs) (drop (start + (n + k)) xs))

-- as many elements, and those after the range stay
pub moved_length : {X : Type 0} (start n k : ℕ) (xs : List X) → start + (n + k) ≤ length xs → length (with_range_moved start n k xs) ≡ length xs
moved_length start n k xs le =
    let b = length-take-le start xs (omega (arith, le)) in
    let c = length-take-le k (drop (start + n) xs) (omega (arith, le, length-drop (start + n) xs)) in
    let d = length-take-le n (drop start xs) (omega (arith, le, length-drop start xs)) in
    let f = length-drop (start + (n + k)) xs in
    let g = length-append (take k (drop (start + n) xs)) (take n (drop start xs)) in
    let h = length-append (take start xs) (take k (drop (start + n) xs) ++ take n (drop start xs)) in
    let i = length-append (take start xs ++ (take k (drop (start + n) xs) ++ take n (drop start xs))) (drop (start + (n + k)) xs) in
    omega (arith, b, c, d, f, g, h, i, le)

pub moved_front : {X : Type 0} (start n k : ℕ) (xs ys : List X) → start + (n + k) ≤ length xs → with_range_moved start n k (xs ++ ys) ≡ with_range_moved start n k xs ++ ys
moved_front start n k xs ys le =
    rw (
      take-append-le start xs ys (omega (arith, le)),
      drop-append-le (start + n) xs ys (omega (arith, le)),
      drop-append-le start xs ys (omega (arith, le)),
      drop-append-le (start + (n + k)) xs ys le,
      take-append-le k (drop (start + n) xs) ys (omega (arith, le, length-drop (start + n) xs)),
      take-append-le n (drop start xs) ys (omega (arith, le, length-drop start xs)),
    )
    (sym (append_assoc (take start xs ++ (take k (drop (start + n) xs) ++ take n (drop start xs))) (drop (start + (n + k)) xs) ys))

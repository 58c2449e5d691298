-- One list that holds two: a front, and the rest from an index on.
use lib.Seq.{paste}
use Rattle.std.proofs.Common.{ℕ, ◌≡◌, ◌≤◌, ◌<◌, ◌+◌, ◌-◌, ◌++◌, List, [], ◌∷◌, zero, suc, length, take, drop, set, refl, arith, ap, sym, ◌∙◌, append_assoc}
use Rattle.std.proofs.lemmas.List.{length-append, length-take-le, take-append-drop, take_at, drop-drop, drop_at}
use Rattle.std.proofs.Math.Seq.{drop-append-add}

pub none : {X : Type 0} (m : ℕ) (xs : List X) → xs ≡ [] → take m xs ≡ []
none zero xs e = refl
none (suc m) [] e = refl
none (suc m) (x ∷ xs) e = cc

-- elements of the front that were moved before the rest
pub backed_rest : {X : Type 0} (xs ys : List X) (i front from at k : ℕ) → i ≤ front → front ≤ from → from ≤ length xs → at + k ≡ from → k ≡ front - i → ys ≡ paste xs at (drop i xs) k → drop at ys ≡ drop i (take front xs) ++ drop from xs
backed_rest {X} xs ys i front from at k le ordered within there wide e =
    let long = length-take-le at xs (omega (arith, within, there)) in
    let back : drop at (paste xs at (drop i xs) k) ≡ take k (drop i xs) ++ drop (at + k) xs = ap (drop at) (append_assoc (take at xs) (take k (drop i xs)) (drop (at + k) xs)) ∙ drop_at (take at xs) (take k (drop i xs) ++ drop (at + k) xs) at long in
    let mid : take k (drop i xs) ≡ drop i (take front xs) = rw wide (between xs i front le) in
    rw (e, back, mid, there) refl
  where
    between : (zs : List X) (i front : ℕ) → i ≤ front → take (front - i) (drop i zs) ≡ drop i (take front zs)
    between zs zero front le = let all : front - 0 ≡ front = omega arith in ap (λ n. take n zs) all
    between zs (suc i) zero le = absurd (omega (arith, le))
    between [] (suc i) (suc front) le = none (suc front - suc i) [] refl
    between (z ∷ zs) (suc i) (suc front) le = let same : suc front - suc i ≡ front - i = omega arith in ap (λ n. take n (drop i zs)) same ∙ between zs i front (omega (arith, le))

-- where both meet, the end of the front is before the rest
pub met_rest : {X : Type 0} (xs : List X) (i n : ℕ) → i ≤ n → drop i xs ≡ drop i (take n xs) ++ drop n xs
met_rest xs zero n le = sym (take-append-drop n xs)
met_rest xs (suc i) zero le = absurd (omega (arith, le))
met_rest [] (suc i) (suc n) le = refl
met_rest (x ∷ xs) (suc i) (suc n) le = met_rest xs i n (omega (arith, le))

-- an element that was written after the front
pub set_end : {X : Type 0} (xs : List X) (n : ℕ) (x : X) → n < length xs → take (n + 1) (set xs n x) ≡ take n xs ++ x ∷ []
set_end xs n x lt = let more : n + 1 ≡ suc n = omega arith in ap (λ k. take k (set xs n x)) more ∙ there xs n x lt
  where
    there : {X : Type 0} (xs : List X) (n : ℕ) (x : X) → n < length xs → take (suc n) (set xs n x) ≡ take n xs ++ x ∷ []
    there [] n x lt = absurd (omega (arith, lt))
    there (y ∷ ys) zero x lt = refl
    there (y ∷ ys) (suc n) x lt = ap (λ zs. y ∷ zs) (there ys n x (omega (arith, lt)))

-- what is past elements that were written over others
pub pasted_past : {X : Type 0} (xs ys zs : List X) (at k m : ℕ) → at ≤ length xs → k ≤ length zs → at + k ≤ m → ys ≡ paste xs at zs k → drop m ys ≡ drop m xs
pasted_past xs ys zs at k m le few past e =
    let a = take at xs ++ take k zs in
    let long : length a ≡ at + k = omega (arith, length-append (take at xs) (take k zs), length-take-le at xs le, length-take-le k zs few) in
    let there : m ≡ length a + (m - (at + k)) = omega (arith, long, past) in
    let back : at + k + (m - (at + k)) ≡ m = omega (arith, past) in
    ap (drop m) e ∙ ap (λ n. drop n (a ++ drop (at + k) xs)) there ∙ drop-append-add a (drop (at + k) xs) (m - (at + k)) ∙ drop-drop (m - (at + k)) (at + k) xs ∙ ap (λ n. drop n xs) back

-- one more stretch of a list
pub take_on : {X : Type 0} (xs : List X) (n k : ℕ) → take (n + k) xs ≡ take n xs ++ take k (drop n xs)
take_on xs zero k = let same : 0 + k ≡ k = omega arith in ap (λ m. take m xs) same
take_on [] (suc n) k =
    let more : suc n + k ≡ suc (n + k) = omega arith in
    ap (λ m. take m []) more ∙ sym (none k [] refl)
take_on (x ∷ xs) (suc n) k = let more : suc n + k ≡ suc (n + k) = omega arith in ap (λ m. take m (x ∷ xs)) more ∙ ap (λ ys. x ∷ ys) (take_on xs n k)

-- what was lent of the front and of the rest, and came back
pub seam_front : {X : Type 0} (out mid rest : List X) (n : ℕ) → length out ≡ n → take n (out ++ mid ++ rest) ≡ out
seam_front out mid rest n long = ap (take n) (append_assoc out mid rest) ∙ take_at out (mid ++ rest) n long

pub seam_rest : {X : Type 0} (out mid rest : List X) (n k : ℕ) → length out + length mid ≡ n → drop (n + k) (out ++ mid ++ rest) ≡ drop k rest
seam_rest out mid rest n k long =
    let whole : n ≡ length (out ++ mid) = omega (arith, long, length-append out mid) in
    ap (λ m. drop (m + k) (out ++ mid ++ rest)) whole ∙ drop-append-add (out ++ mid) rest k

-- Lists in pieces, each of which is rewritten by itself.
use Rattle.std.specs.Prelude.{ℕ, ◌≡◌, List, [], ◌∷◌, ◌++◌, length, take, drop, refl}
use Rattle.std.specs.List.{flat_map}
use Rattle.std.specs.List.Sorted.{IsPermutation}
use Rattle.std.proofs.Common.{sym, ap, subst, ◌∙◌}
use Rattle.std.proofs.Math.Seq.{take-append_seam, drop-append_seam}
use Rattle.std.proofs.lemmas.List.Sorted.{length_permutation}

-- each piece rewritten by itself, concatenated
abbrev pub each_by_itself : {X : Type 0} → (List X → List X) → List (List X) → List X
each_by_itself rule pieces = flat_map rule pieces

-- a list has the elements of each piece at the piece's indices, in some order
abbrev pub ArePermuted : {X : Type 0} → List (List X) → List X → Type 0
ArePermuted [] ys = ys ≡ []
ArePermuted (xs ∷ xss) ys = IsPermutation xs (take (length xs) ys) × ArePermuted xss (drop (length xs) ys)

-- a rule leaves a permutation of each list
abbrev pub Permutes : (List ℕ → List ℕ) → Type 0
Permutes rule = (xs : List ℕ) → IsPermutation xs (rule xs)

pub in_front : {X : Type 0} (xs ys zs : List X) (xss : List (List X)) → IsPermutation xs ys → ArePermuted xss zs → ArePermuted (xs ∷ xss) (ys ++ zs)
in_front xs ys zs xss p h =
    let n = length_permutation xs ys p in
    let first : take (length xs) (ys ++ zs) ≡ ys = ap (λ m. take m (ys ++ zs)) (sym n) ∙ take-append_seam ys zs in
    let later : drop (length xs) (ys ++ zs) ≡ zs = ap (λ m. drop m (ys ++ zs)) (sym n) ∙ drop-append_seam ys zs in
    (subst (IsPermutation xs) (sym first) p, subst (ArePermuted xss) (sym later) h)

-- where a rule permutes each list, a list in pieces is permuted piece by piece
pub permutes_each : {X : Type 0} (rule : List X → List X) → ((xs : List X) → IsPermutation xs (rule xs)) → (pieces : List (List X))
    → ArePermuted pieces (each_by_itself rule pieces)
permutes_each rule p [] = refl
permutes_each rule p (xs ∷ xss) = in_front xs (rule xs) (each_by_itself rule xss) xss (p xs) (permutes_each rule p xss)

-- where a rule permutes each list, a list in pieces is permuted piece by piece, in numbers
abbrev pub PermutesEach : Type 0
PermutesEach = (rule : List ℕ → List ℕ) → Permutes rule → (pieces : List (List ℕ)) → ArePermuted pieces (each_by_itself rule pieces)

pub permutes_numbers : PermutesEach
permutes_numbers rule p pieces = permutes_each rule p pieces

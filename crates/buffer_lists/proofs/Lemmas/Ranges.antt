-- How long groups are.
use Rattle.std.proofs.Common.{suc, ◌≡◌, ◌≤◌, Bool, true, false, if◌then◌else◌, List, [], ◌∷◌, length, map, drop, arith, refl, ap, ◌∙◌}
use Rattle.std.proofs.lemmas.List.{length-take-le}
use Rattle.buffer_lists.specs.Groups.{joined_count, group_length}
use Rattle.buffer_lists.specs.Facts.{group_lengths}
use Rattle.buffer_lists.specs.Lemmas.GroupsTurned.{groups_cut}

pub map_twice : {X Y Z : Type 0} (g : Y → Z) (f : X → Y) (xs : List X) → map g (map f xs) ≡ map (λ x. g (f x)) xs
map_twice g f [] = refl
map_twice g f (x ∷ xs) = ap (λ ys. g (f x) ∷ ys) (map_twice g f xs)

pub joined_within : {X : Type 0} (p : X → X → Bool) (x : X) (xs : List X) → joined_count p x xs ≤ length xs
joined_within p x [] = omega arith
joined_within p x (y ∷ ys) = let rest = joined_within p y ys in elim (p x y) as (λ t. (if t then suc (joined_count p y ys) else 0) ≤ suc (length ys)) [ true ↦ omega (arith, rest) | false ↦ omega arith ]

-- the length of the first group, and those of the groups after it
pub lengths_cut : {X : Type 0} (p : X → X → Bool) (x : X) (xs : List X) → group_lengths p (x ∷ xs) ≡ group_length p (x ∷ xs) ∷ group_lengths p (drop (group_length p (x ∷ xs)) (x ∷ xs))
lengths_cut p x xs =
    let n = group_length p (x ∷ xs) in
    let within : n ≤ length (x ∷ xs) = omega (arith, joined_within p x xs) in
    ap (map (λ ys. length ys)) (groups_cut p x xs) ∙ ap (λ k. k ∷ group_lengths p (drop n (x ∷ xs))) (length-take-le n (x ∷ xs) within)

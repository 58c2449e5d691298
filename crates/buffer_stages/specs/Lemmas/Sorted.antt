-- A stable order by `auxiliary` numbers and groups in reversed order: as many items as there were, and a permutation of them.
use Rattle.std.proofs.Common.{ℕ, zero, suc, ◌≡◌, ◌≤◌, Bool, true, false, if◌then◌else◌, List, [], ◌∷◌, ◌++◌, length, take, drop, reverse, refl, sym, ap, subst, ◌∙◌, arith}
use Rattle.std.specs.List.{flat_map}
use Rattle.std.specs.List.Sorted.{IsPermutation}
use Rattle.std.proofs.lemmas.List.{append-nil, length-append, length-drop, length-take-le}
use Rattle.std.proofs.lemmas.Grind.{reverse_onto}
use Rattle.std.proofs.lemmas.List.Concat.{flat_map-append}
use Rattle.std.proofs.lemmas.List.Sorted.{length_permutation, IsPermutation-refl, IsPermutation-trans, IsPermutation-map, IsPermutation-append_left, IsPermutation-append_comm}
use Rattle.buffer_rows.specs.KeyOrder.{key_bound, key_order}
use Rattle.buffer_lists.specs.Groups.{group_length, joined_count}
use Rattle.buffer_lists.specs.Turning.{in_front, groups, groups_reversed_list}
use Rattle.buffer_lists.specs.Lemmas.GroupsTurned.{turned_onto}
use Rattle.buffer_lists.specs.Lemmas.KeyOrder.{all_below, by_key_moves}
use Rattle.buffer_glyphs.specs.Items.{Item}
use Rattle.buffer_stages.specs.Ordering.{groups_reversed, same_group, auxiliary_order}
use Rattle.buffer_stages.specs.SyllableLaws.{IsPermuted}
use Rattle.buffer_lists.proofs.Lemmas.Ranges.{joined_within}

-- ---- sizes

pub key_order_size : {X : Type 0} (key : X → ℕ) (xs : List X) → length (key_order key xs) ≡ length xs
key_order_size key xs = length_permutation xs (key_order key xs) (by_key_moves key (key_bound key xs) xs (all_below key (key_bound key xs) xs (omega arith)))

turned_within : {X : Type 0} (p : X → X → Bool) (n : ℕ) (xs : List X) → length xs ≤ n → length (groups_reversed_list p xs) ≡ length xs
turned_within p n [] le = refl
turned_within p zero (x ∷ xs) le = absurd (omega (arith, le))
turned_within p (suc n) (x ∷ xs) le =
    let k = group_length p (x ∷ xs) in
    let inside : k ≤ length (x ∷ xs) = let j = joined_within p x xs in omega (arith, j) in
    let rest = drop k (x ∷ xs) in
    let many = length-drop k (x ∷ xs) in
    let few : length rest ≤ n = omega (arith, many, le) in
    ap length (turned_onto p x xs) ∙ length-append (groups_reversed_list p rest) (take k (x ∷ xs)) ∙ omega (arith, turned_within p n rest few, many, length-take-le k (x ∷ xs) inside, inside)

pub groups_turned_size : {X : Type 0} (p : X → X → Bool) (xs : List X) → length (groups_reversed_list p xs) ≡ length xs
groups_turned_size p xs = turned_within p (length xs) xs (omega arith)

pub sorted_size : (xs : List Item) → length (auxiliary_order xs).items ≡ length xs
sorted_size xs = key_order_size (λ (x : Item). x.auxiliary) xs

pub reversed_size : (begins : Item → Bool) (xs : List Item) → length (groups_reversed begins xs).items ≡ length xs
reversed_size begins xs = groups_turned_size (same_group begins) xs

-- ---- permutations

pub sorted_permutes : (xs : List Item) → IsPermuted xs (auxiliary_order xs)
sorted_permutes xs =
    let key : Item → ℕ = λ (x : Item). x.auxiliary in
    IsPermutation-map (λ (x : Item). x.number) xs (key_order key xs) (by_key_moves key (key_bound key xs) xs (all_below key (key_bound key xs) xs (omega arith)))

abbrev all_of : {X : Type 0} → List (List X) → List X
all_of gss = flat_map (λ ys. ys) gss

first_joins : {X : Type 0} (p : X → X → Bool) (x : X) (gss : List (List X)) → all_of (in_front p x gss) ≡ x ∷ all_of gss
first_joins p x [] = refl
first_joins p x ([] ∷ gss) = refl
first_joins p x ((y ∷ ys) ∷ gss) = elim (p x y) as (λ t. all_of (if t then (x ∷ y ∷ ys) ∷ gss else (x ∷ []) ∷ (y ∷ ys) ∷ gss) ≡ x ∷ (y ∷ ys) ++ all_of gss) [ true ↦ refl | false ↦ refl ]

groups_join : {X : Type 0} (p : X → X → Bool) (xs : List X) → all_of (groups p xs) ≡ xs
groups_join p [] = refl
groups_join p (x ∷ xs) = first_joins p x (groups p xs) ∙ ap (λ ys. x ∷ ys) (groups_join p xs)

reversed_moves : {X : Type 0} (gss : List (List X)) → IsPermutation (all_of gss) (all_of (reverse gss))
reversed_moves [] = IsPermutation-refl []
reversed_moves (g ∷ gss) =
    let back : all_of (reverse gss) ++ g ≡ all_of (reverse (g ∷ gss)) =
    sym (ap (λ hss. flat_map (λ ys. ys) hss) (reverse_onto gss g []) ∙ flat_map-append (λ ys. ys) (reverse gss) (g ∷ []) ∙ ap (λ zs. all_of (reverse gss) ++ zs) (append-nil g)) in
    subst (IsPermutation (g ++ all_of gss)) back
    (IsPermutation-trans (g ++ all_of gss) (all_of gss ++ g) (all_of (reverse gss) ++ g) (IsPermutation-append_comm g (all_of gss)) (IsPermutation-append_left g (all_of gss) (all_of (reverse gss)) (reversed_moves gss)))

pub turned_permutes : (begins : Item → Bool) (xs : List Item) → IsPermuted xs (groups_reversed begins xs)
turned_permutes begins xs =
    let p = same_group begins in
    let q = subst (λ ys. IsPermutation ys (groups_reversed_list p xs)) (groups_join p xs) (reversed_moves (groups p xs)) in
    IsPermutation-map (λ (x : Item). x.number) xs (groups_reversed_list p xs) q

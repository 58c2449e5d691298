-- The orders of sorts permute, and events of walks over a list are lossless.
use Rattle.std.proofs.Common.{ℕ, ◌≡◌, ◌≤◌, ◌+◌, Bool, true, false, if◌then◌else◌, List, [], ◌∷◌, ◌++◌, length, map, arith, refl, ap, subst, ◌∙◌}
use Rattle.std.specs.Prelude.{slice_index_or}
use Rattle.std.specs.List.{range_with_len, flat_map}
use Rattle.std.specs.List.Sorted.{IsPermutation}
use Rattle.std.proofs.lemmas.List.{length-append}
use Rattle.std.proofs.lemmas.List.FromFn.{length-range_with_len}
use Rattle.std.proofs.lemmas.List.Sorted.{length_permutation, IsPermutation-map}
use Rattle.buffer_rows.specs.KeyOrder.{key_bound, key_order}
use Rattle.buffer_unicode_tables.specs.ClassOrder.{run_order}
use Rattle.buffer_properties.specs.Ordering.{IndexedClass, indexed_classes_from, sorted_order}
use Rattle.buffer_glyphs.specs.Events.{Delete, Reverse}
use Rattle.buffer_parts.specs.Counts.{count_after_event}
use Rattle.buffer_lists.specs.Facts.{group_lengths}
use Rattle.buffer_lists.specs.Turning.{in_front, groups}
use Rattle.buffer_lists.specs.Events.{order_of, group_events, deletions_from}
use Rattle.buffer_lists.specs.Lemmas.KeyOrder.{all_below, by_key_moves}
use Rattle.buffer_parts.specs.Breaks.Lossless.{IsPermuting, AreLossless}
use Rattle.buffer_parts.proofs.BreakLemmas.Orders.{of_count, reversals_permute}
use Rattle.buffer_parts.proofs.BreakLemmas.Events.{both_lossless}
use Rattle.buffer_parts.specs.Breaks.SortLaws.{SortsPermute, MarkOrdersPermute, WalksAreLossless}

-- the order by a key has the elements of the list
in_key_order : {X : Type 0} (key : X → ℕ) (xs : List X) → IsPermutation xs (key_order key xs)
in_key_order key xs = by_key_moves key (key_bound key xs) xs (all_below key (key_bound key xs) xs (omega arith))

-- an order that is a permutation of n indices
of_indices : (from n : ℕ) (order : List ℕ) (all : ℕ) → from + n ≤ all → IsPermutation (range_with_len 0 n) order → IsPermuting from order all
of_indices from n order all fits p = of_count from n all order (length_permutation (range_with_len 0 n) order p ∙ length-range_with_len 0 n) fits p

pub sorts_permute : SortsPermute
sorts_permute from keys n fits = of_indices from (length keys) (order_of keys) n fits (in_key_order (λ i. slice_index_or keys i 0) (range_with_len 0 (length keys)))

-- indexed classes have the indices from the first on
indices_are : (i : ℕ) (ks : List ℕ) → map (λ (e : IndexedClass). e.index) (indexed_classes_from i ks) ≡ range_with_len i (length ks)
indices_are i [] = refl
indices_are i (k ∷ ks) = ap (λ (is : List ℕ). i ∷ is) (indices_are (i + 1) ks)

run_moves : (xs : List IndexedClass) → IsPermutation xs (run_order (λ (e : IndexedClass). e.class) xs)
unfolding run_order
run_moves xs = in_key_order (λ (e : IndexedClass). e.class) xs

pub mark_orders_permute : MarkOrdersPermute
mark_orders_permute from classes n fits =
    let all = indexed_classes_from 0 classes in
    let index : IndexedClass → ℕ = λ e. e.index in
    let sorted = run_order (λ (e : IndexedClass). e.class) all in
    of_indices from (length classes) (sorted_order classes) n fits (subst (λ (is : List ℕ). IsPermutation is (map index sorted)) (indices_are 0 classes) (IsPermutation-map index all sorted (run_moves all)))

-- ---- walks

deletions_lossless : {X : Type 0} (goes : X → Bool) (at : ℕ) (xs : List X) (n : ℕ) → AreLossless (deletions_from goes at xs) n
deletions_lossless goes at [] n = tt
deletions_lossless goes at (x ∷ xs) n = elim (goes x) as (λ t. AreLossless (if t then Delete at ∷ deletions_from goes at xs else deletions_from goes (at + 1) xs) n)
    [ true ↦ (tt, deletions_lossless goes at xs (count_after_event n (Delete at))) | false ↦ deletions_lossless goes (at + 1) xs n ]

-- the elements of all groups, one after another
abbrev all_of : {X : Type 0} → List (List X) → List X
all_of gss = flat_map (λ ys. ys) gss

first_joins : {X : Type 0} (p : X → X → Bool) (x : X) (gss : List (List X)) → all_of (in_front p x gss) ≡ x ∷ all_of gss
first_joins p x [] = refl
first_joins p x ([] ∷ gss) = refl
first_joins p x ((y ∷ ys) ∷ gss) = elim (p x y) as (λ t. all_of (if t then (x ∷ y ∷ ys) ∷ gss else (x ∷ []) ∷ (y ∷ ys) ∷ gss) ≡ x ∷ (y ∷ ys) ++ all_of gss) [ true ↦ refl | false ↦ refl ]

groups_join : {X : Type 0} (p : X → X → Bool) (xs : List X) → all_of (groups p xs) ≡ xs
groups_join p [] = refl
groups_join p (x ∷ xs) = first_joins p x (groups p xs) ∙ ap (λ ys. x ∷ ys) (groups_join p xs)

-- groups that lie in a list
groups_lossless : {X : Type 0} (merge : Bool) (at : ℕ) (gss : List (List X)) (n : ℕ) → at + length (all_of gss) ≤ n → AreLossless (group_events merge at (map (λ ys. length ys) gss)) n
groups_lossless merge at [] n fits = tt
groups_lossless true at (g ∷ gss) n fits =
    let count = length-append g (all_of gss) in
    (reversals_permute at (length g) n (omega (arith, count, fits)), groups_lossless true (at + length g) gss n (omega (arith, count, fits)))
groups_lossless false at (g ∷ gss) n fits =
    let count = length-append g (all_of gss) in
    (reversals_permute at (length g) n (omega (arith, count, fits)), groups_lossless false (at + length g) gss n (omega (arith, count, fits)))

pub walks_are_lossless : WalksAreLossless
walks_are_lossless goes merge joins xs =
    let all : length (all_of (groups joins xs)) ≡ length xs = ap length (groups_join joins xs) in
    let n = length xs in
    let events = group_events merge 0 (group_lengths joins xs) in
    (deletions_lossless goes 0 xs n, both_lossless events (Reverse ∷ []) n (groups_lossless merge 0 (groups joins xs) n (omega (arith, all))) (tt, tt))

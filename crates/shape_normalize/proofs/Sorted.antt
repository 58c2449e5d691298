-- The order of a run's indices once it is sorted by its classes, as the buffer's sort has it.
use Rattle.std.proofs.Common.{zero, suc, ℕ, ◌≡◌, ◌+◌, ◌==◌, Bool, List, [], ◌∷◌, ◌++◌, length, map, max, refl, sym, ap, ap₂, ◌∙◌, append_assoc, arith, inl, inr}
use Rattle.std.specs.Prelude.{slice_index_or, filter}
use Rattle.std.specs.List.{range_with_len}
use Rattle.std.proofs.lemmas.Bool.{cases_Bool, cond-true, cond-false}
use Rattle.std.proofs.lemmas.List.{map-append, length-append}
use Rattle.buffer_lists.specs.Events.{order_of}
use Rattle.buffer_rows.specs.KeyOrder.{of_key, by_key, key_bound, key_order}
use Rattle.buffer_unicode_tables.specs.ClassOrder.{run_order}
use Rattle.buffer_properties.specs.Ordering.{IndexedClass, indexed_classes_from, sorted_order}

filter_through : {X Y : Type 0} (f : X → Y) (p : Y → Bool) (xs : List X) → filter p (map f xs) ≡ map f (filter (λ x. p (f x)) xs)
filter_through f p [] = refl
filter_through f p (x ∷ xs) =
    elim (cases_Bool (p (f x))) [
      | inl at ↦ cond-true _ _ _ at ∙ (ap (λ ys. f x ∷ ys) (filter_through f p xs) ∙ ap (map f) (sym (cond-true _ _ _ at)))
      | inr off ↦ cond-false _ _ _ off ∙ (filter_through f p xs ∙ ap (map f) (sym (cond-false _ _ _ off)))
    ]

by_key_through : {X Y : Type 0} (f : X → Y) (key : Y → ℕ) (n : ℕ) (xs : List X) → by_key key n (map f xs) ≡ map f (by_key (λ x. key (f x)) n xs)
by_key_through f key zero xs = refl
by_key_through f key (suc n) xs =
    ap₂ (λ ys zs. ys ++ zs) (by_key_through f key n xs) (filter_through f (λ y. key y == n) xs) ∙ sym (map-append f (by_key (λ x. key (f x)) n xs) (of_key (λ x. key (f x)) n xs))

bound_through : {X Y : Type 0} (f : X → Y) (key : Y → ℕ) (xs : List X) → key_bound key (map f xs) ≡ key_bound (λ x. key (f x)) xs
bound_through f key [] = refl
bound_through f key (x ∷ xs) = ap (λ n. max (key (f x) + 1) n) (bound_through f key xs)

order_through : {X Y : Type 0} (f : X → Y) (key : Y → ℕ) (xs : List X) → key_order key (map f xs) ≡ map f (key_order (λ x. key (f x)) xs)
order_through f key xs = ap (λ n. by_key key n (map f xs)) (bound_through f key xs) ∙ by_key_through f key (key_bound (λ x. key (f x)) xs) xs

abbrev at_index : List ℕ → ℕ → IndexedClass
at_index ks i = record { class = slice_index_or ks i 0; index = i }

index_seam : (pre : List ℕ) (k : ℕ) (ks : List ℕ) → slice_index_or (pre ++ k ∷ ks) (length pre) 0 ≡ k
index_seam [] k ks = refl
index_seam (p ∷ pre) k ks = index_seam pre k ks

indexed_are : (pre ks : List ℕ) (i : ℕ) → length pre ≡ i → indexed_classes_from i ks ≡ map (at_index (pre ++ ks)) (range_with_len i (length ks))
indexed_are pre [] i e = refl
indexed_are pre (k ∷ ks) i e =
    ap₂ (λ (x : IndexedClass) (xs : List IndexedClass). x ∷ xs) (ap (λ (c : ℕ). record { class = c; index = i }) (sym (ap (λ j. slice_index_or (pre ++ k ∷ ks) j 0) (sym e) ∙ index_seam pre k ks)))
    (indexed_are (pre ++ k ∷ []) ks (i + 1) (let all = length-append pre (k ∷ []) in omega (arith, all, e))
    ∙ ap (λ zs. map (at_index zs) (range_with_len (i + 1) (length ks))) (append_assoc pre (k ∷ []) ks))

indices_back : (ks is : List ℕ) → map (λ (e : IndexedClass). e.index) (map (at_index ks) is) ≡ is
indices_back ks [] = refl
indices_back ks (i ∷ is) = ap (λ js. i ∷ js) (indices_back ks is)

pub sorted_order_is : (ks : List ℕ) → sorted_order ks ≡ order_of ks
unfolding run_order
sorted_order_is ks =
    ap (λ es. map (λ (e : IndexedClass). e.index) (key_order (λ (e : IndexedClass). e.class) es)) (indexed_are [] ks 0 refl)
    ∙ ap (map (λ (e : IndexedClass). e.index)) (order_through (at_index ks) (λ (e : IndexedClass). e.class) (range_with_len 0 (length ks)))
    ∙ indices_back ks (key_order (λ i. slice_index_or ks i 0) (range_with_len 0 (length ks)))

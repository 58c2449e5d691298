-- A stable sort by a number, as its lists of equal keys one after another.
use Rattle.std.proofs.Common.{ℕ, zero, suc, ◌≡◌, ◌==◌, ◌<◌, ◌≤◌, Bool, true, false, if◌then◌else◌, List, [], ◌∷◌, length, get_or, refl, arith, nat_lt, inl, inr, not, ◌&&◌, Less, Equal, Greater}
use Rattle.std.proofs.lemmas.Grind.{common_steps}
use Rattle.std.proofs.lemmas.Bool.Decides.{nat_tests}
use Rattle.std.specs.List.Sorted.{IsNonDecreasingBy, IsStableByKey, IsPermutation, ties}
use Rattle.std.specs.Ordering.{nat_cmp, is_lt}
use Rattle.std.specs.List.{All}
use Rattle.std.proofs.lemmas.List.Sorted.{All-permutation}
use Rattle.std.proofs.lemmas.List.Elements.{filter_agree, All-nil, All-cons, All-head, All-tail}
use Rattle.std.proofs.lemmas.Bool.{cases_eq}
use Rattle.buffer_rows.specs.KeyOrder.{of_key, by_key, key_bound, key_order}

abbrev AtLeast : {X : Type 0} → (X → ℕ) → ℕ → List X → Type 0
AtLeast key m [] = Unit {0}
AtLeast key m (x ∷ xs) = (m ≤ key x) × AtLeast key m xs

abbrev pub Below : {X : Type 0} → (X → ℕ) → ℕ → List X → Type 0
Below key n [] = Unit {0}
Below key n (x ∷ xs) = (key x < n) × Below key n xs

abbrev Rising : {X : Type 0} → (X → ℕ) → List X → Type 0
Rising key [] = Unit {0}
Rising key (x ∷ xs) = AtLeast key (key x) xs × Rising key xs

at_least_weaker : {X : Type 0} (key : X → ℕ) (m n : ℕ) (xs : List X) → m ≤ n → AtLeast key n xs → AtLeast key m xs
at_least_weaker key m n [] le h = tt
at_least_weaker key m n (x ∷ xs) le h = (omega (arith, h.0), at_least_weaker key m n xs le h.1)

none_of : {X : Type 0} (key : X → ℕ) (m : ℕ) (xs : List X) → AtLeast key (suc m) xs → of_key key m xs ≡ []
none_of key m [] h = refl
none_of key m (x ∷ xs) h =
    let off : (key x == m) ≡ false = grind (arith, common_steps, h.0) in
    rw (off, none_of key m xs h.1) refl

none_below : {X : Type 0} (key : X → ℕ) (m : ℕ) (xs : List X) → AtLeast key m xs → by_key key m xs ≡ []
none_below key zero xs h = refl
none_below key (suc m) xs h = rw (none_below key m xs (at_least_weaker key m (suc m) xs (omega arith) h), none_of key m xs h) refl

front_of : {X : Type 0} (key : X → ℕ) (n : ℕ) (x : X) (xs : List X) → key x < n → AtLeast key (key x) xs → by_key key n (x ∷ xs) ≡ x ∷ by_key key n xs
front_of key zero x xs lt h = absurd (omega (arith, lt))
front_of key (suc m) x xs lt h =
    elim (cases_eq (key x) m) [
      | inl e ↦
          let at : (key x == m) ≡ true = grind (arith, common_steps, e) in
          let none = none_below key m (x ∷ xs) (omega (arith, e), at_least_weaker key m (key x) xs (omega (arith, e)) h) in
          let none' = none_below key m xs (at_least_weaker key m (key x) xs (omega (arith, e)) h) in
          rw (none, none', at) refl
      | inr ne ↦
          let off : (key x == m) ≡ false = grind (arith, common_steps, ne) in
          rw (off, front_of key m x xs (omega (arith, lt, ne)) h) refl
    ]

pub empty : {X : Type 0} (key : X → ℕ) (n : ℕ) → by_key key n [] ≡ []
empty key zero = refl
empty key (suc n) = rw (empty key n) refl

-- a rising list is its keys one after another
rising_is : {X : Type 0} (key : X → ℕ) (n : ℕ) (xs : List X) → Rising key xs → Below key n xs → by_key key n xs ≡ xs
rising_is key n [] r b = empty key n
rising_is key n (x ∷ xs) r b = rw (front_of key n x xs b.0 r.0, rising_is key n xs r.1 b.1) refl

at_least_from : {X : Type 0} (key : X → ℕ) (m : ℕ) (xs : List X) → ((k : ℕ) (d : X) → k < length xs → m ≤ key (get_or xs k d)) → AtLeast key m xs
at_least_from key m [] h = tt
at_least_from key m (x ∷ xs) h = (h 0 x (omega arith), at_least_from key m xs (λ k d lt. h (suc k) d (omega (arith, lt))))

rising_from : {X : Type 0} (key : X → ℕ) (xs : List X) → IsNonDecreasingBy key xs → Rising key xs
rising_from key [] h = tt
rising_from key (x ∷ xs) h =
    (at_least_from key (key x) xs (λ k d lt. h 0 (suc k) d (omega arith) (omega (arith, lt))), rising_from key xs (λ i j d le lt. h (suc i) (suc j) d (omega (arith, le)) (omega (arith, lt))))

less_is : (p q : Bool) → is_lt (if p then Less else (if q then Equal else Greater)) ≡ p
less_is true q = refl
less_is false true = refl
less_is false false = refl

lt_is : (a b : ℕ) → is_lt (nat_cmp a b) ≡ nat_lt a b
lt_is a b = less_is (nat_lt a b) (a == b)

apart_is : (a b : ℕ) → (not (nat_lt a b) && not (nat_lt b a)) ≡ (b == a)
apart_is a b = grind (arith, nat_tests)

-- elements of equal key tie
tie_is : {X : Type 0} (key : X → ℕ) (x y : X) → ties (λ a b. is_lt (nat_cmp (key a) (key b))) x y ≡ (key y == key x)
tie_is key x y = rw (lt_is (key x) (key y), lt_is (key y) (key x)) (apart_is (key x) (key y))

-- a stable sort keeps the elements of each key in order
stable_key : {X : Type 0} (key : X → ℕ) (xs ys : List X) (x : X) → IsStableByKey key nat_cmp xs ys → of_key key (key x) ys ≡ of_key key (key x) xs
stable_key key xs ys x h =
    let p = filter_agree _ _ (tie_is key x) ys in
    let q = filter_agree _ _ (tie_is key x) xs in
    let s = h x in
    cc

stable_keys : {X : Type 0} (key : X → ℕ) (element : ℕ → X) (has : (c : ℕ) → key (element c) ≡ c) (n : ℕ) (xs ys : List X) → IsStableByKey key nat_cmp xs ys → by_key key n ys ≡ by_key key n xs
stable_keys key element has zero xs ys h = refl
stable_keys key element has (suc n) xs ys h =
    let here = rw (has n) at (stable_key key xs ys (element n) h) in
    rw (stable_keys key element has n xs ys h, here) refl

below_bound : {X : Type 0} (key : X → ℕ) (n : ℕ) (xs : List X) → key_bound key xs ≤ n → Below key n xs
below_bound key n [] h = tt
below_bound key n (x ∷ xs) h = (omega (arith, h), below_bound key n xs (omega (arith, h)))

all_below : {X : Type 0} (key : X → ℕ) (n : ℕ) (xs : List X) → Below key n xs → All (λ x. key x < n) xs
all_below key n [] h = All-nil (λ x. key x < n)
all_below key n (x ∷ xs) h = All-cons (λ y. key y < n) x xs h.0 (all_below key n xs h.1)

below_all : {X : Type 0} (key : X → ℕ) (n : ℕ) (xs : List X) → All (λ x. key x < n) xs → Below key n xs
below_all key n [] h = tt
below_all key n (x ∷ xs) h = (All-head (λ y. key y < n) x xs h, below_all key n xs (All-tail (λ y. key y < n) x xs h))

pub stable_sort_is : {X : Type 0} (key : X → ℕ) (element : ℕ → X) → ((c : ℕ) → key (element c) ≡ c) → (xs ys : List X)
    → IsNonDecreasingBy key ys → IsStableByKey key nat_cmp xs ys → IsPermutation xs ys → ys ≡ key_order key xs
stable_sort_is key element has xs ys sorted stable moved =
    let n = key_bound key xs in
    let below = below_all key n ys (All-permutation (λ x. key x < n) xs ys moved (all_below key n xs (below_bound key n xs (omega arith)))) in
    let down = stable_keys key element has n xs ys stable in
    let all = rising_is key n ys (rising_from key ys sorted) below in
    cc

-- The order by a key has the elements of the list, and where it cuts them.
use Rattle.std.specs.Prelude.{◌↔◌, IsTrue}
use Rattle.std.specs.List.{All, filter, list_all}
use Rattle.std.specs.List.Sorted.{IsPermutation}
use Rattle.std.proofs.Common.{ℕ, suc, zero, ◌≡◌, ◌≤◌, ◌<◌, ◌==◌, inl, inr, ◌&&◌, not, Bool, true, false, List, [], ◌∷◌, ◌++◌, length, take, drop, arith, refl, ap, sym, subst, ◌∙◌, append_assoc, eqb-true, ne_eqb}
use Rattle.std.proofs.lemmas.Bool.{cases_eq}
use Rattle.std.proofs.lemmas.Grind.{common_steps}
use Rattle.std.proofs.lemmas.List.{append-nil, length-append, length-take-le, take-append-drop}
use Rattle.std.proofs.lemmas.List.Elements.{All-nil, All-cons, All-head, All-tail, All-append, All-filter, All-weaker, filter-append, filter_passes}
use Rattle.std.proofs.lemmas.List.Sorted.{IsPermutation-refl, IsPermutation-sym, IsPermutation-cons, IsPermutation-trans, IsPermutation-middle, IsPermutation-append_left, All-permutation, length_permutation}
use Rattle.std.proofs.Math.Seq.{take-append_seam}
use Rattle.buffer_rows.specs.KeyOrder.{of_key, by_key, key_bound, key_order}
use Rattle.buffer_facts.proofs.Lists.{empty_by_length as no_length}
use Rattle.buffer_rows.proofs.StableSort.{empty as none_by_key}

-- what holds of each element holds of each in the order by a key
pub all_by_key : {X : Type 0} (P : X → Type 0) (key : X → ℕ) (n : ℕ) (xs : List X) → All P xs → All P (by_key key n xs)
all_by_key P key zero xs h = All-nil P
all_by_key P key (suc n) xs h = All-append P (by_key key n xs) (of_key key n xs) (all_by_key P key n xs h) (All-filter (λ x. key x == n) P xs h)

pub all_in_order : {X : Type 0} (P : X → Type 0) (key : X → ℕ) (xs : List X) → All P xs → All P (key_order key xs)
all_in_order P key xs h = all_by_key P key (key_bound key xs) xs h

pub all_right : {X : Type 0} (P : X → Type 0) (xs ys : List X) → All P (xs ++ ys) → All P ys
all_right P [] ys h = h
all_right P (x ∷ xs) ys h = all_right P xs ys (All-tail P x (xs ++ ys) h)

pub all_left : {X : Type 0} (P : X → Type 0) (xs ys : List X) → All P (xs ++ ys) → All P xs
all_left P [] ys h = All-nil P
all_left P (x ∷ xs) ys h = All-cons P x xs (All-head P x (xs ++ ys) h) (all_left P xs ys (All-tail P x (xs ++ ys) h))

pub all_below : {X : Type 0} (key : X → ℕ) (n : ℕ) (xs : List X) → key_bound key xs ≤ n → All (λ x. key x < n) xs
all_below key n [] le = All-nil (λ x. key x < n)
all_below key n (x ∷ xs) le = All-cons (λ y. key y < n) x xs (omega arith) (all_below key n xs (omega arith))

-- the order by a key has the elements of the list
same_below : {X : Type 0} (key : X → ℕ) (n : ℕ) (x : X) (xs : List X) → n ≤ key x → by_key key n (x ∷ xs) ≡ by_key key n xs
same_below key zero x xs le = refl
same_below key (suc n) x xs le =
    let off : (key x == n) ≡ false = ne_eqb (key x) n (omega arith) in
    rw (same_below key n x xs (omega arith), off) refl

one_more : {X : Type 0} (key : X → ℕ) (n : ℕ) (x : X) (xs : List X) → key x < n → IsPermutation (x ∷ by_key key n xs) (by_key key n (x ∷ xs))
one_more key zero x xs lt = absurd (omega arith)
one_more key (suc n) x xs lt = elim (cases_eq (key x) n) [
  | inl e ↦
      let on : (key x == n) ≡ true = grind (arith, common_steps, e) in
      rw (same_below key n x xs (omega arith), on) (IsPermutation-sym (by_key key n xs ++ x ∷ of_key key n xs) (x ∷ (by_key key n xs ++ of_key key n xs)) (IsPermutation-middle (by_key key n xs) x (of_key key n xs)))
  | inr ne ↦
      let off : (key x == n) ≡ false = ne_eqb (key x) n ne in
      rw off (IsPermutation-append_left (of_key key n xs) (x ∷ by_key key n xs) (by_key key n (x ∷ xs)) (one_more key n x xs (omega arith)))
]

pub by_key_moves : {X : Type 0} (key : X → ℕ) (n : ℕ) (xs : List X) → All (λ x. key x < n) xs → IsPermutation xs (by_key key n xs)
by_key_moves key n [] h = rw (none_by_key key n) (IsPermutation-refl [])
by_key_moves key n (x ∷ xs) h =
    IsPermutation-trans (x ∷ xs) (x ∷ by_key key n xs) (by_key key n (x ∷ xs)) (IsPermutation-cons x xs (by_key key n xs) (by_key_moves key n xs (All-tail (λ y. key y < n) x xs h)))
    (one_more key n x xs (All-head (λ y. key y < n) x xs h))

-- a test may pick elements before or after they are put in order
filters_swap : {X : Type 0} (p q : X → Bool) (xs : List X) → filter p (filter q xs) ≡ filter q (filter p xs)
filters_swap p q [] = refl
filters_swap p q (x ∷ xs) = by_tests (p x) refl (q x) refl (filters_swap p q xs)
  where
    by_tests : (s : Bool) → p x ≡ s → (t : Bool) → q x ≡ t → filter p (filter q xs) ≡ filter q (filter p xs) → filter p (filter q (x ∷ xs)) ≡ filter q (filter p (x ∷ xs))
    by_tests true e true f rest = rw (e, f, e, rest) refl
    by_tests true e false f rest = rw (e, f, rest) refl
    by_tests false e true f rest = rw (e, f, e, rest) refl
    by_tests false e false f rest = rw (e, f, rest) refl

filter_by_key : {X : Type 0} (p : X → Bool) (key : X → ℕ) (n : ℕ) (xs : List X) → filter p (by_key key n xs) ≡ by_key key n (filter p xs)
filter_by_key p key zero xs = refl
filter_by_key p key (suc n) xs =
    filter-append p (by_key key n xs) (of_key key n xs) ∙ ap (λ ys. ys ++ filter p (of_key key n xs)) (filter_by_key p key n xs) ∙ ap (λ ys. by_key key n (filter p xs) ++ ys) (filters_swap p (λ x. key x == n) xs)

filter_all : {X : Type 0} (p : X → Bool) (xs : List X) → All (λ x. p x ≡ true) xs → filter p xs ≡ xs
filter_all p [] h = refl
filter_all p (x ∷ xs) h =
    let on : p x ≡ true = All-head (λ y. p y ≡ true) x xs h in
    rw (on, filter_all p xs (All-tail (λ y. p y ≡ true) x xs h)) refl

filter_none : {X : Type 0} (p : X → Bool) (xs : List X) → All (λ x. p x ≡ false) xs → filter p xs ≡ []
filter_none p [] h = refl
filter_none p (x ∷ xs) h =
    let off : p x ≡ false = All-head (λ y. p y ≡ false) x xs h in
    rw (off, filter_none p xs (All-tail (λ y. p y ≡ false) x xs h)) refl

all_from_empty : {X : Type 0} (p : X → Bool) (xs : List X) → filter p xs ≡ [] → All (λ x. p x ≡ false) xs
all_from_empty p [] e = All-nil (λ x. p x ≡ false)
all_from_empty p (x ∷ xs) e = by_test (p x) refl (all_from_empty p xs)
  where
    by_test : (t : Bool) → p x ≡ t → (filter p xs ≡ [] → All (λ y. p y ≡ false) xs) → All (λ y. p y ≡ false) (x ∷ xs)
    by_test true f later = let bad : x ∷ filter p xs ≡ [] = rw f at e in cc
    by_test false f later = let rest : filter p xs ≡ [] = rw f at e in All-cons (λ y. p y ≡ false) x xs f (later rest)

all_from_test : {X : Type 0} (p : X → Bool) (xs : List X) → list_all p xs ≡ true → All (λ x. p x ≡ true) xs
all_from_test p [] e = All-nil (λ x. p x ≡ true)
all_from_test p (x ∷ xs) e = let both = and_cases (p x) (list_all p xs) e in All-cons (λ y. p y ≡ true) x xs both.0 (all_from_test p xs both.1)
  where
    and_cases : (s t : Bool) → (s && t) ≡ true → (s ≡ true) × (t ≡ true)
    and_cases true t a = (refl, a)
    and_cases false t a = cc

pub test_from_all : {X : Type 0} (p : X → Bool) (xs : List X) → All (λ x. p x ≡ true) xs → list_all p xs ≡ true
test_from_all p [] h = refl
test_from_all p (x ∷ xs) h = rw (All-head (λ y. p y ≡ true) x xs h, test_from_all p xs (All-tail (λ y. p y ≡ true) x xs h)) refl

-- keys never fall
abbrev Rises : {X : Type 0} → (X → ℕ) → List X → Type 0
Rises key [] = Unit {0}
Rises key (x ∷ xs) = All (λ y. key x ≤ key y) xs × Rises key xs

-- no key of one list is greater than one of another
abbrev Below : {X : Type 0} → (X → ℕ) → List X → List X → Type 0
Below key xs ys = All (λ x. All (λ y. key x ≤ key y) ys) xs

rises_on : {X : Type 0} (key : X → ℕ) (xs ys : List X) → Rises key xs → Rises key ys → Below key xs ys → Rises key (xs ++ ys)
rises_on key [] ys h k b = k
rises_on key (x ∷ xs) ys h k b =
    (All-append (λ y. key x ≤ key y) xs ys h.0 (All-head (λ z. All (λ y. key z ≤ key y) ys) x xs b), rises_on key xs ys h.1 k (All-tail (λ z. All (λ y. key z ≤ key y) ys) x xs b))

rises_across : {X : Type 0} (key : X → ℕ) (xs ys : List X) → Rises key (xs ++ ys) → Below key xs ys
rises_across key [] ys h = All-nil (λ x. All (λ y. key x ≤ key y) ys)
rises_across key (x ∷ xs) ys h = All-cons (λ z. All (λ y. key z ≤ key y) ys) x xs (all_right (λ y. key x ≤ key y) xs ys h.0) (rises_across key xs ys h.1)

level : {X : Type 0} (key : X → ℕ) (n : ℕ) (xs : List X) → All (λ x. key x ≡ n) xs → Rises key xs
level key n [] h = tt
level key n (x ∷ xs) h =
    let here : key x ≡ n = All-head (λ y. key y ≡ n) x xs h in
    let rest = All-tail (λ y. key y ≡ n) x xs h in
    (All-weaker (λ y. key y ≡ n) (λ y. key x ≤ key y) (λ y e. omega arith) xs rest, level key n xs rest)

of_one_key : {X : Type 0} (key : X → ℕ) (n : ℕ) (xs : List X) → All (λ x. key x ≡ n) (of_key key n xs)
of_one_key key n xs = All-weaker (λ x. (key x == n) ≡ true) (λ x. key x ≡ n) (λ x e. eqb-true (key x) n e) (of_key key n xs) (filter_passes (λ x. key x == n) xs)

keys_below : {X : Type 0} (key : X → ℕ) (n : ℕ) (xs : List X) → All (λ x. key x < n) (by_key key n xs)
keys_below key zero xs = All-nil (λ x. key x < 0)
keys_below key (suc n) xs =
    All-append (λ x. key x < suc n) (by_key key n xs) (of_key key n xs) (All-weaker (λ x. key x < n) (λ x. key x < suc n) (λ x h. omega arith) (by_key key n xs) (keys_below key n xs))
    (All-weaker (λ x. key x ≡ n) (λ x. key x < suc n) (λ x h. omega arith) (of_key key n xs) (of_one_key key n xs))

by_key_rises : {X : Type 0} (key : X → ℕ) (n : ℕ) (xs : List X) → Rises key (by_key key n xs)
by_key_rises key zero xs = tt
by_key_rises key (suc n) xs =
    rises_on key (by_key key n xs) (of_key key n xs) (by_key_rises key n xs) (level key n (of_key key n xs) (of_one_key key n xs))
    (All-weaker (λ x. key x < n) (λ x. All (λ y. key x ≤ key y) (of_key key n xs)) (λ x lt. All-weaker (λ y. key y ≡ n) (λ y. key x ≤ key y) (λ y e. omega arith) (of_key key n xs) (of_one_key key n xs)) (by_key key n xs) (keys_below key n xs))

-- with no key of the second list below one of the first, the order is that of the first and then that of the second
none_under : {X : Type 0} (key : X → ℕ) (n : ℕ) (xs : List X) → All (λ x. n ≤ key x) xs → by_key key n xs ≡ []
none_under {X = X} key n xs h = empty (by_key key n xs) (keys_below key n xs) (all_by_key (λ x. n ≤ key x) key n xs h)
  where
    empty : (ys : List X) → All (λ y. key y < n) ys → All (λ y. n ≤ key y) ys → ys ≡ []
    empty [] lt le = refl
    empty (y ∷ ys) lt le = absurd (omega (arith, All-head (λ z. key z < n) y ys lt, All-head (λ z. n ≤ key z) y ys le))

parts_apart : {X : Type 0} (key : X → ℕ) (n : ℕ) (xs ys : List X) → Below key xs ys → by_key key n (xs ++ ys) ≡ by_key key n xs ++ by_key key n ys
parts_apart {X = X} key zero xs ys b = refl
parts_apart {X = X} key (suc n) xs ys b =
    ap (λ zs. zs ++ of_key key n (xs ++ ys)) (parts_apart key n xs ys b) ∙ ap (λ zs. (by_key key n xs ++ by_key key n ys) ++ zs) (filter-append (λ x. key x == n) xs ys)
    ∙ by_first (of_key key n xs) (All-filter (λ x. key x == n) (λ x. All (λ y. key x ≤ key y) ys) xs b) (of_one_key key n xs)
  where
    by_first : (zs : List X) → All (λ x. All (λ y. key x ≤ key y) ys) zs → All (λ x. key x ≡ n) zs → (by_key key n xs ++ by_key key n ys) ++ (zs ++ of_key key n ys) ≡ (by_key key n xs ++ zs) ++ (by_key key n ys ++ of_key key n ys)
    by_first [] under same = append_assoc (by_key key n xs) (by_key key n ys) (of_key key n ys) ∙ ap (λ ws. ws ++ (by_key key n ys ++ of_key key n ys)) (sym (append-nil (by_key key n xs)))
    by_first (z ∷ zs) under same =
        let e : key z ≡ n = All-head (λ x. key x ≡ n) z zs same in
        let none = none_under key n ys (subst (λ (m : ℕ). All (λ y. m ≤ key y) ys) e (All-head (λ x. All (λ y. key x ≤ key y) ys) z zs under)) in
        rw (none, append-nil) (sym (append_assoc (by_key key n xs) (z ∷ zs) (of_key key n ys)))

-- those that the test picks stand in front, and are as many: so the order is of them, and then of the others
pub seam_cuts : {X : Type 0} (key : X → ℕ) (n : ℕ) (p : X → Bool) (xs ys front back : List X) → All (λ x. key x < n) xs → All (λ x. p x ≡ true) xs → All (λ y. p y ≡ false) ys
    → by_key key n (xs ++ ys) ≡ front ++ back → length front ≡ length xs → list_all p front ≡ true → (front ≡ by_key key n xs) × (back ≡ by_key key n ys)
seam_cuts {X = X} key n p xs ys front back below picked other e long passes =
    let q : X → Bool = λ x. not (p x) in
    let on = all_from_test p front passes in
    let those : filter p (xs ++ ys) ≡ xs = filter-append p xs ys ∙ ap (λ zs. zs ++ filter p ys) (filter_all p xs picked) ∙ ap (λ zs. xs ++ zs) (filter_none p ys other) ∙ append-nil xs in
    let first : front ++ filter p back ≡ by_key key n xs =
    sym (ap (filter p) e ∙ filter-append p front back ∙ ap (λ zs. zs ++ filter p back) (filter_all p front on)) ∙ filter_by_key p key n (xs ++ ys) ∙ ap (by_key key n) those in
    let many = length_permutation xs (by_key key n xs) (by_key_moves key n xs below) in
    let none : filter p back ≡ [] = no_length (filter p back) (omega (arith, many, ap length first, length-append front (filter p back))) in
    let off = all_from_empty p back none in
    let rest : filter q (xs ++ ys) ≡ ys =
    filter-append q xs ys ∙ ap (λ zs. zs ++ filter q ys) (filter_none q xs (All-weaker (λ x. p x ≡ true) (λ x. q x ≡ false) (λ x h. ap not h) xs picked)) ∙ filter_all q ys (All-weaker (λ x. p x ≡ false) (λ x. q x ≡ true) (λ x h. ap not h) ys other) in
    let second : back ≡ by_key key n ys =
    sym (ap (filter q) e ∙ filter-append q front back ∙ ap (λ zs. zs ++ filter q back) (filter_none q front (All-weaker (λ x. p x ≡ true) (λ x. q x ≡ false) (λ x h. ap not h) front on))
    ∙ filter_all q back (All-weaker (λ x. p x ≡ false) (λ x. q x ≡ true) (λ x h. ap not h) back off)) ∙ filter_by_key q key n (xs ++ ys) ∙ ap (by_key key n) rest in
    (sym (append-nil front) ∙ ap (λ zs. front ++ zs) (sym none) ∙ first, second)

-- the keys of such parts
below_parts : {X : Type 0} (key : X → ℕ) (n : ℕ) (xs ys : List X) → All (λ x. key x < n) xs → All (λ y. key y < n) ys → Below key (by_key key n xs) (by_key key n ys) → Below key xs ys
below_parts key n xs ys hx hy b =
    All-weaker (λ x. All (λ y. key x ≤ key y) (by_key key n ys)) (λ x. All (λ y. key x ≤ key y) ys)
    (λ x h. All-permutation (λ y. key x ≤ key y) (by_key key n ys) ys (IsPermutation-sym ys (by_key key n ys) (by_key_moves key n ys hy)) h) xs
    (All-permutation (λ x. All (λ y. key x ≤ key y) (by_key key n ys)) (by_key key n xs) xs (IsPermutation-sym xs (by_key key n xs) (by_key_moves key n xs hx)) b)

-- an index cuts the order just where it cuts the keys
pub seam_by_key : {X : Type 0} (key : X → ℕ) (p : X → Bool) (xs ys : List X) → All (λ x. p x ≡ true) xs → All (λ y. p y ≡ false) ys → IsTrue (list_all p (take (length xs) (key_order key (xs ++ ys)))) ↔ Below key xs ys
seam_by_key key p xs ys picked other = (cuts, apart)
  where
    all : All (λ x. key x < key_bound key (xs ++ ys)) (xs ++ ys)
    all = all_below key (key_bound key (xs ++ ys)) (xs ++ ys) (omega arith)

    firsts : All (λ x. key x < key_bound key (xs ++ ys)) xs
    firsts = all_left (λ x. key x < key_bound key (xs ++ ys)) xs ys all

    lasts : All (λ x. key x < key_bound key (xs ++ ys)) ys
    lasts = all_right (λ x. key x < key_bound key (xs ++ ys)) xs ys all

    cuts : list_all p (take (length xs) (key_order key (xs ++ ys))) ≡ true → Below key xs ys
    cuts h =
        let n = key_bound key (xs ++ ys) in
        let order = key_order key (xs ++ ys) in
        let whole : order ≡ take (length xs) order ++ drop (length xs) order = sym (take-append-drop (length xs) order) in
        let many = length_permutation (xs ++ ys) order (by_key_moves key n (xs ++ ys) all) in
        let long = length-take-le (length xs) order (omega (arith, many, length-append xs ys)) in
        let cut = seam_cuts key n p xs ys (take (length xs) order) (drop (length xs) order) firsts picked other whole long h in
        let parts : order ≡ by_key key n xs ++ by_key key n ys = whole ∙ ap (λ zs. zs ++ drop (length xs) order) cut.0 ∙ ap (λ zs. by_key key n xs ++ zs) cut.1 in
        below_parts key n xs ys firsts lasts (rises_across key (by_key key n xs) (by_key key n ys) (subst (Rises key) parts (by_key_rises key n (xs ++ ys))))

    apart : Below key xs ys → list_all p (take (length xs) (key_order key (xs ++ ys))) ≡ true
    apart b =
        let n = key_bound key (xs ++ ys) in
        let long = length_permutation xs (by_key key n xs) (by_key_moves key n xs firsts) in
        let front : take (length xs) (key_order key (xs ++ ys)) ≡ by_key key n xs =
        ap (take (length xs)) (parts_apart key n xs ys b) ∙ ap (λ m. take m (by_key key n xs ++ by_key key n ys)) (sym long) ∙ take-append_seam (by_key key n xs) (by_key key n ys) in
        ap (list_all p) front ∙ test_from_all p (by_key key n xs) (all_by_key (λ x. p x ≡ true) key n xs picked)

-- How many rows lists have that are made of others.
use Rattle.std.proofs.Common.{◌≡◌, ℕ, zero, suc, ◌+◌, ◌*◌, ◌≤◌, ◌==◌, nat_lt, nat_le, Bool, true, false, if◌then◌else◌, List, [], ◌∷◌, ◌++◌, length, filter, Option, Some, None, refl, ap, inl, inr, arith}
use Rattle.std.specs.Option.{option_to_list}
use Rattle.std.specs.declared.cmp.Ordering.{Ordering}
use Rattle.std.proofs.lemmas.Bool.{cases_order, cases_Bool}
use Rattle.std.proofs.lemmas.Bool.Decides.{nat_tests}
use Rattle.buffer_rows.specs.Keys.{is_above}
use Rattle.buffer_rows.specs.KeyOrder.{of_key, by_key, key_bound, key_order}
use Rattle.font_bytes.specs.Records.{records}
use Rattle.font_common.specs.Rows.{first_rows}
use Rattle.font_records.specs.Covered.{first_records}
use Rattle.font_laws.specs.RowCounts.{total_row_count, optional_row_count}

-- ---- all rows

pub total_append : {A : Type 0} (count : A → ℕ) (xs ys : List A) → total_row_count count (xs ++ ys) ≡ total_row_count count xs + total_row_count count ys
total_append count [] ys = omega arith
total_append count (x ∷ xs) ys = let rest = total_append count xs ys in omega arith

-- elements without lists of their own
pub total_flat : {A : Type 0} (count : A → ℕ) → ((a : A) → count a ≡ 0) → (xs : List A) → total_row_count count xs ≡ length xs
total_flat count none [] = refl
total_flat count none (x ∷ xs) = let here = none x in let rest = total_flat count none xs in omega arith

pub length_total : {A : Type 0} (xs : List A) → length xs ≤ total_row_count (λ _. 0) xs
length_total xs = let same = total_flat (λ _. 0) (λ _. refl) xs in omega arith

-- elements of one weight
pub total_constant : {A : Type 0} (weight : ℕ) (xs : List A) → total_row_count (λ _. weight) xs ≡ (1 + weight) * length xs
total_constant weight [] = omega arith
total_constant weight (x ∷ xs) = let rest = total_constant weight xs in omega arith

pub total_option : {A : Type 0} (count : A → ℕ) (a : Option A) → total_row_count count (option_to_list a) ≤ optional_row_count count a + 1
total_option count None = omega arith
total_option count (Some a) = omega arith

-- ---- weights

-- the weights of all elements
abbrev pub weigh : {A : Type 0} → (A → ℕ) → List A → ℕ
weigh weight [] = 0
weigh weight (a ∷ rest) = weight a + weigh weight rest

pub total_is_weight : {A : Type 0} (count : A → ℕ) (xs : List A) → total_row_count count xs ≡ weigh (λ a. 1 + count a) xs
total_is_weight count [] = refl
total_is_weight count (x ∷ xs) = let rest = total_is_weight count xs in omega arith

pub weigh_append : {A : Type 0} (weight : A → ℕ) (xs ys : List A) → weigh weight (xs ++ ys) ≡ weigh weight xs + weigh weight ys
weigh_append weight [] ys = omega arith
weigh_append weight (x ∷ xs) ys = let rest = weigh_append weight xs ys in omega arith

-- a weight where a test holds
abbrev pub share : ℕ → Bool → ℕ
share weight t = if t then weight else 0

share_fits : (weight : ℕ) (t : Bool) → share weight t ≤ weight
share_fits weight true = omega arith
share_fits weight false = omega arith

-- ---- the order by a key

by_key_cons : {A : Type 0} (weight : A → ℕ) (key : A → ℕ) (n : ℕ) (x : A) (xs : List A)
    → weigh weight (by_key key n (x ∷ xs)) ≤ weigh weight (by_key key n xs) + share (weight x) (nat_lt (key x) n)
by_key_cons weight key zero x xs = omega arith
by_key_cons weight key (suc m) x xs =
    let before = by_key_cons weight key m x xs in
    let one = weigh_append weight (by_key key m (x ∷ xs)) (of_key key m (x ∷ xs)) in
    let other = weigh_append weight (by_key key m xs) (of_key key m xs) in
    elim (cases_order (key x) m) [
      | inl same ↦
          let here : (key x == m) ≡ true = grind (arith, nat_tests, same) in
          let low : nat_lt (key x) m ≡ false = grind (arith, nat_tests, same) in
          let high : nat_lt (key x) (suc m) ≡ true = grind (arith, nat_tests, same) in
          let own : weigh weight (of_key key m (x ∷ xs)) ≡ weight x + weigh weight (of_key key m xs) = rw here refl in
          let less = rw low at before in
          rw high (omega arith)
      | inr (inl below) ↦
          let here : (key x == m) ≡ false = grind (arith, nat_tests, below) in
          let low : nat_lt (key x) m ≡ true = grind (arith, nat_tests, below) in
          let high : nat_lt (key x) (suc m) ≡ true = grind (arith, nat_tests, below) in
          let own : weigh weight (of_key key m (x ∷ xs)) ≡ weigh weight (of_key key m xs) = rw here refl in
          let less = rw low at before in
          rw high (omega arith)
      | inr (inr above) ↦
          let here : (key x == m) ≡ false = grind (arith, nat_tests, above) in
          let low : nat_lt (key x) m ≡ false = grind (arith, nat_tests, above) in
          let high : nat_lt (key x) (suc m) ≡ false = grind (arith, nat_tests, above) in
          let own : weigh weight (of_key key m (x ∷ xs)) ≡ weigh weight (of_key key m xs) = rw here refl in
          let less = rw low at before in
          rw high (omega arith)
    ]

by_key_none : {A : Type 0} (weight : A → ℕ) (key : A → ℕ) (n : ℕ) → weigh weight (by_key key n []) ≡ 0
by_key_none weight key zero = refl
by_key_none weight key (suc m) = let rest = by_key_none weight key m in let split = weigh_append weight (by_key key m []) [] in omega arith

by_key_fits : {A : Type 0} (weight : A → ℕ) (key : A → ℕ) (n : ℕ) (xs : List A) → weigh weight (by_key key n xs) ≤ weigh weight xs
by_key_fits weight key n [] = let none = by_key_none weight key n in omega arith
by_key_fits weight key n (x ∷ xs) =
    let step = by_key_cons weight key n x xs in
    let rest = by_key_fits weight key n xs in
    let own = share_fits (weight x) (nat_lt (key x) n) in
    omega arith

pub key_order_weight : {A : Type 0} (weight : A → ℕ) (key : A → ℕ) (xs : List A) → weigh weight (key_order key xs) ≤ weigh weight xs
key_order_weight weight key xs = by_key_fits weight key (key_bound key xs) xs

-- ---- records of which each key has one

either_weighs : {A : Type 0} (weight : A → ℕ) (bound : ℕ) (t : Bool) (xs ys : List A) → weigh weight xs ≤ bound → weigh weight ys ≤ bound
    → weigh weight (if t then xs else ys) ≤ bound
either_weighs weight bound true xs ys h k = h
either_weighs weight bound false xs ys h k = k

pub first_rows_weight : {R K : Type 0} (weight : R → ℕ) (order : K → K → Ordering) (key : R → K) (before : Option K) (rows : List R)
    → weigh weight (first_rows order key before rows) ≤ weigh weight rows
first_rows_weight weight order key before [] = omega arith
first_rows_weight weight order key before (r ∷ rows) =
    let one = first_rows_weight weight order key (Some (key r)) rows in
    let other = first_rows_weight weight order key before rows in
    either_weighs weight (weigh weight (r ∷ rows)) (is_above order before (key r)) (r ∷ first_rows order key (Some (key r)) rows) (first_rows order key before rows)
    (omega arith) (omega arith)

filter_weight : {A : Type 0} (weight : A → ℕ) (test : A → Bool) (xs : List A) → weigh weight (filter test xs) ≤ weigh weight xs
filter_weight weight test [] = omega arith
filter_weight weight test (x ∷ xs) =
    let rest = filter_weight weight test xs in
    either_weighs weight (weigh weight (x ∷ xs)) (test x) (x ∷ filter test xs) (filter test xs) (omega arith) (omega arith)

-- ---- lengths

length_is_weight : {A : Type 0} (xs : List A) → length xs ≡ weigh (λ _. 1) xs
length_is_weight [] = refl
length_is_weight (x ∷ xs) = let rest = length_is_weight xs in omega arith

-- a list unless a test holds
pub unless_short : {A : Type 0} (t : Bool) (xs : List A) (n : ℕ) → length xs ≤ n → length (if t then [] else xs) ≤ n
unless_short true xs n h = omega arith
unless_short false xs n h = h

-- a list where a test holds
pub when_short : {A : Type 0} (t : Bool) (xs : List A) (n : ℕ) → length xs ≤ n → length (if t then xs else []) ≤ n
when_short true xs n h = h
when_short false xs n h = omega arith

pub filter_length : {A : Type 0} (test : A → Bool) (xs : List A) → length (filter test xs) ≤ length xs
filter_length test xs =
    let fits = filter_weight (λ _. 1) test xs in
    let one = length_is_weight (filter test xs) in
    let other = length_is_weight xs in
    omega arith

pub first_rows_length : {R K : Type 0} (order : K → K → Ordering) (key : R → K) (before : Option K) (rows : List R)
    → length (first_rows order key before rows) ≤ length rows
first_rows_length order key before rows =
    let fits = first_rows_weight (λ _. 1) order key before rows in
    let one = length_is_weight (first_rows order key before rows) in
    let other = length_is_weight rows in
    omega arith

pub key_order_length : {A : Type 0} (key : A → ℕ) (xs : List A) → length (key_order key xs) ≤ length xs
key_order_length key xs =
    let fits = key_order_weight (λ _. 1) key xs in
    let one = length_is_weight (key_order key xs) in
    let other = length_is_weight xs in
    omega arith

pub records_length : {R : Type 0} (read : ℕ → R) (width at count : ℕ) → length (records read width at count) ≡ count
unfolding records
records_length read width at zero = refl
records_length read width at (suc count) = ap suc (records_length read width (at + width) count)

pub first_records_length : (least : ℕ) (gs os : List ℕ) → (length (first_records least gs os) ≤ length gs) × (length (first_records least gs os) ≤ length os)
first_records_length least [] os = (omega arith, omega arith)
first_records_length least (g ∷ gs) [] = (omega arith, omega arith)
first_records_length least (g ∷ gs) (o ∷ os) =
    let one = first_records_length (g + 1) gs os in
    let other = first_records_length least gs os in
    elim (cases_Bool (nat_le least g)) [
      | inl in_order ↦ rw in_order (omega arith, omega arith)
      | inr repeated ↦ rw repeated (omega arith, omega arith)
    ]

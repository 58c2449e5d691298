-- The class order and the elements of each class.
use Rattle.std.proofs.Common.{ℕ, zero, suc, ◌≡◌, ◌≢◌, ◌≤◌, ◌==◌, ◌||◌, nat_lt, true, false, if◌then◌else◌, List, [], ◌∷◌, ◌++◌, max, refl, sym, ap, ap₂, ◌∙◌, arith, inl, inr, append_assoc, ne_eqb, eq-eqb, lt-ltb, le-ltb}
use Rattle.std.proofs.lemmas.Bool.{cases_eq, cases_lt, cases_order, cond-true, cond-false}
use Rattle.std.proofs.lemmas.List.{append-nil}
use Rattle.std.proofs.lemmas.List.Elements.{filter-append}
use Rattle.std.proofs.lemmas.Bool.Decides.{nat_tests}
use Rattle.buffer_rows.proofs.Orders.{none_beyond, same_key_twice, two_keys}
use Rattle.buffer_rows.specs.KeyOrder.{of_key, by_key, key_bound}
use Rattle.buffer_unicode_tables.specs.ClassOrder.{run_order, order_after, class_order, beside_starters, OrderIsByClasses}

-- a run has no starters
abbrev pub IsRun : {X : Type 0} → (X → ℕ) → List X → Type 0
IsRun class [] = Unit {0}
IsRun class (x ∷ xs) = (class x ≢ 0) × IsRun class xs

run_push : {X : Type 0} (class : X → ℕ) (run : List X) (x : X) → IsRun class run → class x ≢ 0 → IsRun class (run ++ x ∷ [])
run_push class [] x r n = (n, tt)
run_push class (y ∷ ys) x r n = (r.0, run_push class ys x r.1 n)

pub beside_starters-append : {X : Type 0} (class : X → ℕ) (c : ℕ) (xs ys : List X) → beside_starters class c (xs ++ ys) ≡ beside_starters class c xs ++ beside_starters class c ys
beside_starters-append class c xs ys = filter-append (λ x. class x == 0 || class x == c) xs ys

-- in a run, the elements beside starters are those of the class
beside_in_run : {X : Type 0} (class : X → ℕ) (c : ℕ) (run : List X) → IsRun class run → beside_starters class c run ≡ of_key class c run
beside_in_run class c [] r = refl
beside_in_run class c (x ∷ xs) r =
    let off : (class x == 0) ≡ false = ne_eqb _ 0 r.0 in
    rw (off, beside_in_run class c xs r.1) refl

no_starter_class : {X : Type 0} (class : X → ℕ) (run : List X) → IsRun class run → of_key class 0 run ≡ []
no_starter_class class [] r = refl
no_starter_class class (x ∷ xs) r = cond-false _ _ _ (ne_eqb _ 0 r.0) ∙ no_starter_class class xs r.1

pub run_of_class : {X : Type 0} (class : X → ℕ) (c : ℕ) (run : List X) → IsRun class run → IsRun class (of_key class c run)
run_of_class class c [] r = tt
run_of_class class c (x ∷ xs) r =
    elim (class x == c) as (λ b. IsRun class (if b then x ∷ of_key class c xs else of_key class c xs)) [
      | true ↦ (r.0, run_of_class class c xs r.1)
      | false ↦ run_of_class class c xs r.1
    ]

beside_own : {X : Type 0} (class : X → ℕ) (c : ℕ) (run : List X) → IsRun class run → beside_starters class c (of_key class c run) ≡ of_key class c run
beside_own class c run r = beside_in_run class c (of_key class c run) (run_of_class class c run r) ∙ same_key_twice class c run

beside_other : {X : Type 0} (class : X → ℕ) (c d : ℕ) (run : List X) → IsRun class run → c ≢ d → beside_starters class c (of_key class d run) ≡ []
beside_other class c d run r apart = beside_in_run class c (of_key class d run) (run_of_class class d run r) ∙ two_keys class c d run apart

-- the class orders of a run have the elements of a class below the bound, and no other beside starters
beside_in_order : {X : Type 0} (class : X → ℕ) (c n : ℕ) (run : List X) → IsRun class run
    → beside_starters class c (by_key class n run) ≡ (if nat_lt c n then of_key class c run else [])
beside_in_order class c zero run r = let off : nat_lt c 0 ≡ false = grind (arith, nat_tests) in rw off refl
beside_in_order class c (suc m) run r =
    let front = beside_in_order class c m run r in
    let split = beside_starters-append class c (by_key class m run) (of_key class m run) in
    elim (cases_order c m) [
      | inl same ↦
          let low : nat_lt c m ≡ false = grind (arith, nat_tests, same) in
          let high : nat_lt c (suc m) ≡ true = grind (arith, nat_tests, same) in
          let own = beside_own class m run r in
          rw (split, front, low, high, same, own) refl
      | inr (inl below) ↦
          let low : nat_lt c m ≡ true = grind (arith, nat_tests, below) in
          let high : nat_lt c (suc m) ≡ true = grind (arith, nat_tests, below) in
          let other = beside_other class c m run r (omega (arith, below)) in
          rw (split, front, low, high, other, append-nil) refl
      | inr (inr above) ↦
          let low : nat_lt c m ≡ false = grind (arith, nat_tests, above) in
          let high : nat_lt c (suc m) ≡ false = grind (arith, nat_tests, above) in
          let other = beside_other class c m run r (omega (arith, above)) in
          rw (split, front, low, high, other) refl
    ]

beside_run_order : {X : Type 0} (class : X → ℕ) (c : ℕ) (run : List X) → IsRun class run → beside_starters class c (run_order class run) ≡ of_key class c run
unfolding run_order
beside_run_order class c run r =
    let all = beside_in_order class c (key_bound class run) run r in
    elim (cases_lt c (key_bound class run)) [
      | inl below ↦ all ∙ cond-true _ _ _ (lt-ltb c (key_bound class run) below)
      | inr above ↦ all ∙ (cond-false _ _ _ (le-ltb c (key_bound class run) above) ∙ sym (none_beyond class c run above))
    ]

starter_stays : {X : Type 0} (class : X → ℕ) (c : ℕ) (x : X) (xs : List X) → class x ≡ 0 → beside_starters class c (x ∷ xs) ≡ x ∷ beside_starters class c xs
starter_stays class c x xs z = let at : (class x == 0) ≡ true = eq-eqb (class x) 0 z in rw at refl

-- the order keeps the starters and the elements of each class
beside_order_after : {X : Type 0} (class : X → ℕ) (c : ℕ) (run xs : List X) → IsRun class run → beside_starters class c (order_after class run xs) ≡ beside_starters class c (run ++ xs)
beside_order_after class c run [] r =
    beside_run_order class c run r ∙ (sym (beside_in_run class c run r) ∙ ap (beside_starters class c) (sym (append-nil run)))
beside_order_after class c run (x ∷ xs) r =
    elim (cases_eq (class x) 0) [
      | inl z ↦
          let at : (class x == 0) ≡ true = eq-eqb (class x) 0 z in
          let left = beside_starters-append class c (run_order class run) (x ∷ order_after class [] xs) in
          let right = beside_starters-append class c run (x ∷ xs) in
          let front = beside_run_order class c run r ∙ sym (beside_in_run class c run r) in
          let after = starter_stays class c x (order_after class [] xs) z ∙ (ap (λ zs. x ∷ zs) (beside_order_after class c [] xs tt) ∙ sym (starter_stays class c x xs z)) in
          ap (beside_starters class c) (cond-true _ _ _ at) ∙ (left ∙ (ap₂ (λ a b. a ++ b) front after ∙ sym right))
      | inr n ↦
          let off : (class x == 0) ≡ false = ne_eqb (class x) 0 n in
          ap (beside_starters class c) (cond-false _ _ _ off) ∙ (beside_order_after class c (run ++ x ∷ []) xs (run_push class run x r n) ∙ ap (beside_starters class c) (append_assoc run (x ∷ []) xs))
    ]

pub beside_order : {X : Type 0} (class : X → ℕ) (c : ℕ) (xs : List X) → beside_starters class c (class_order class xs) ≡ beside_starters class c xs
beside_order class c xs = beside_order_after class c [] xs tt

by_class_same : {X : Type 0} (class : X → ℕ) (n : ℕ) (xs ys : List X) → ((c : ℕ) → of_key class c xs ≡ of_key class c ys) → by_key class n xs ≡ by_key class n ys
by_class_same class zero xs ys h = refl
by_class_same class (suc m) xs ys h = ap₂ (λ a b. a ++ b) (by_class_same class m xs ys h) (h m)

by_class_enough : {X : Type 0} (class : X → ℕ) (n : ℕ) (xs : List X) → key_bound class xs ≤ n → by_key class n xs ≡ by_key class (key_bound class xs) xs
by_class_enough class zero xs h = let e : key_bound class xs ≡ 0 = omega (arith, h) in rw e refl
by_class_enough class (suc m) xs h =
    elim (cases_lt m (key_bound class xs)) [
      | inl at ↦ let e : key_bound class xs ≡ suc m = omega (arith, h, at) in rw e refl
      | inr beyond ↦ ap₂ (λ a b. a ++ b) (by_class_enough class m xs beyond) (none_beyond class m xs beyond) ∙ append-nil (by_key class (key_bound class xs) xs)
    ]

run_order_same : {X : Type 0} (class : X → ℕ) (xs ys : List X) → ((c : ℕ) → of_key class c xs ≡ of_key class c ys) → run_order class xs ≡ run_order class ys
unfolding run_order
run_order_same class xs ys h =
    let n = max (key_bound class xs) (key_bound class ys) in
    sym (by_class_enough class (max (key_bound class xs) (key_bound class ys)) xs (omega arith))
    ∙ (by_class_same class (max (key_bound class xs) (key_bound class ys)) xs ys h ∙ by_class_enough class (max (key_bound class xs) (key_bound class ys)) ys (omega arith))

no_starters : {X : Type 0} (class : X → ℕ) (xs : List X) → beside_starters class 0 xs ≡ [] → IsRun class xs
no_starters class [] h = tt
no_starters class (x ∷ xs) h =
    elim (cases_eq (class x) 0) [
      | inl z ↦ let here = starter_stays class 0 x xs z in cc
      | inr n ↦
          let off : (class x == 0) ≡ false = ne_eqb (class x) 0 n in
          (n, no_starters class xs (rw off at h))
    ]

run_tail : {X : Type 0} (class : X → ℕ) (xs ys : List X) → IsRun class (xs ++ ys) → IsRun class ys
run_tail class [] ys r = r
run_tail class (x ∷ xs) ys r = run_tail class xs ys r.1

order_of_run : {X : Type 0} (class : X → ℕ) (run xs : List X) → IsRun class xs → order_after class run xs ≡ run_order class (run ++ xs)
order_of_run class run [] r = ap (run_order class) (sym (append-nil run))
order_of_run class run (x ∷ xs) r =
    cond-false _ _ _ (ne_eqb (class x) 0 r.0) ∙ (order_of_run class (run ++ x ∷ []) xs r.1 ∙ ap (run_order class) (append_assoc run (x ∷ []) xs))

record SameParts {X : Type 0} (a b : List X) (x y : X) (us vs : List X) : Type 0 where
  fronts : a ≡ b
  starters : x ≡ y
  backs : us ≡ vs

-- lists are cut in one way at their first starter
first_starter : {X : Type 0} (class : X → ℕ) (a b : List X) (x y : X) (us vs : List X) → IsRun class a → IsRun class b → class x ≡ 0 → class y ≡ 0
    → a ++ x ∷ us ≡ b ++ y ∷ vs → SameParts a b x y us vs
first_starter class [] [] x y us vs r s zx zy e = record { fronts = refl; starters = cc; backs = cc }
first_starter class [] (q ∷ qs) x y us vs r s zx zy e = let same : x ≡ q = cc in absurd (s.0 (rw same at zx))
first_starter class (p ∷ ps) [] x y us vs r s zx zy e = let same : p ≡ y = cc in absurd (r.0 (rw same zy))
first_starter class (p ∷ ps) (q ∷ qs) x y us vs r s zx zy e =
    let heads : p ≡ q = cc in
    let tails : ps ++ x ∷ us ≡ qs ++ y ∷ vs = cc in
    let rest = first_starter class ps qs x y us vs r.1 s.1 zx zy tails in
    record { fronts = ap₂ (λ h t. h ∷ t) heads rest.fronts; starters = rest.starters; backs = rest.backs }

starter_met : {X : Type 0} (class : X → ℕ) (r : List X) (x : X) (xs s ys : List X) → class x ≡ 0 → IsRun class r → IsRun class s
    → ((zs : List X) → ((c : ℕ) → beside_starters class c xs ≡ beside_starters class c zs) → order_after class [] xs ≡ order_after class [] zs)
    → ((c : ℕ) → beside_starters class c (r ++ x ∷ xs) ≡ beside_starters class c (s ++ ys))
    → run_order class r ++ x ∷ order_after class [] xs ≡ order_after class s ys
starter_met class r x xs s [] z rr rs later h =
    let left = beside_starters-append class 0 r (x ∷ xs) in
    let front = beside_in_run class 0 r rr ∙ no_starter_class class r rr in
    let back = beside_in_run class 0 s rs ∙ no_starter_class class s rs in
    let here = starter_stays class 0 x xs z in
    let all = h 0 in
    let end : s ++ [] ≡ s = append-nil s in
    let none : beside_starters class 0 (s ++ []) ≡ [] = ap (beside_starters class 0) end ∙ back in
    let same : x ∷ beside_starters class 0 xs ≡ [] = sym here ∙ (ap (λ f. f ++ beside_starters class 0 (x ∷ xs)) (sym front) ∙ (sym left ∙ (all ∙ none))) in
    cc
starter_met class r x xs s (y ∷ ys) z rr rs later h =
    elim (cases_eq (class y) 0) [
      | inl zy ↦
          let at : (class y == 0) ≡ true = eq-eqb (class y) 0 zy in
          let pieces : (c : ℕ) → SameParts (of_key class c r) (of_key class c s) x y (beside_starters class c xs) (beside_starters class c ys) =
          λ c. first_starter class (of_key class c r) (of_key class c s) x y (beside_starters class c xs) (beside_starters class c ys) (run_of_class class c r rr) (run_of_class class c s rs) z zy
          (ap₂ (λ a b. a ++ b) (sym (beside_in_run class c r rr)) (sym (starter_stays class c x xs z))
          ∙ (sym (beside_starters-append class c r (x ∷ xs))
          ∙ (h c
          ∙ (beside_starters-append class c s (y ∷ ys)
          ∙ ap₂ (λ a b. a ++ b) (beside_in_run class c s rs) (starter_stays class c y ys zy))))) in
          let runs = run_order_same class r s (λ c. (pieces c).fronts) in
          let heads : x ≡ y = (pieces 0).starters in
          let tails = later ys (λ c. (pieces c).backs) in
          ap₂ (λ a b. a ++ b) runs (ap₂ (λ a b. a ∷ b) heads tails) ∙ sym (cond-true _ _ _ at)
      | inr ny ↦
          let off : (class y == 0) ≡ false = ne_eqb (class y) 0 ny in
          starter_met class r x xs (s ++ y ∷ []) ys z rr (run_push class s y rs ny) later (λ c. h c ∙ ap (beside_starters class c) (sym (append_assoc s (y ∷ []) ys)))
          ∙ sym (cond-false _ _ _ off)
    ]

order_from : {X : Type 0} (class : X → ℕ) (xs r s ys : List X) → IsRun class r → IsRun class s
    → ((c : ℕ) → beside_starters class c (r ++ xs) ≡ beside_starters class c (s ++ ys)) → order_after class r xs ≡ order_after class s ys
order_from class [] r s ys rr rs h =
    let end : r ++ [] ≡ r = append-nil r in
    let none : beside_starters class 0 (s ++ ys) ≡ [] = sym (h 0) ∙ (ap (beside_starters class 0) end ∙ (beside_in_run class 0 r rr ∙ no_starter_class class r rr)) in
    let whole = no_starters class (s ++ ys) none in
    run_order_same class r (s ++ ys) (λ c. sym (beside_in_run class c r rr) ∙ (ap (beside_starters class c) (sym end) ∙ (h c ∙ beside_in_run class c (s ++ ys) whole)))
    ∙ sym (order_of_run class s ys (run_tail class s ys whole))
order_from class (x ∷ xs) r s ys rr rs h =
    elim (cases_eq (class x) 0) [
      | inl z ↦
          cond-true _ _ _ (eq-eqb (class x) 0 z)
          ∙ starter_met class r x xs s ys z rr rs (λ zs k. order_from class xs [] [] zs tt tt k) h
      | inr n ↦
          cond-false _ _ _ (ne_eqb (class x) 0 n)
          ∙ order_from class xs (r ++ x ∷ []) s ys (run_push class r x rr n) rs (λ c. ap (beside_starters class c) (append_assoc r (x ∷ []) xs) ∙ h c)
    ]

-- what is the same for each class gives the same order
pub order_from_classes : {X : Type 0} (class : X → ℕ) (xs ys : List X) → ((c : ℕ) → beside_starters class c xs ≡ beside_starters class c ys) → class_order class xs ≡ class_order class ys
order_from_classes class xs ys h = order_from class xs [] [] ys tt tt h

-- the same order has the same elements of each class
pub classes_from_order : {X : Type 0} (class : X → ℕ) (xs ys : List X) → class_order class xs ≡ class_order class ys → (c : ℕ) → beside_starters class c xs ≡ beside_starters class c ys
classes_from_order class xs ys e c = sym (beside_order class c xs) ∙ (ap (beside_starters class c) e ∙ beside_order class c ys)

pub order_is_by_classes : OrderIsByClasses
order_is_by_classes class xs ys = (classes_from_order class xs ys, order_from_classes class xs ys)

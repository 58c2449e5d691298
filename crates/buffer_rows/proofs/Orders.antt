-- The order by a key, key by key.
use Rattle.std.proofs.Common.{ℕ, zero, suc, ◌≡◌, ◌≢◌, ◌≤◌, ◌+◌, ◌==◌, nat_lt, true, false, if◌then◌else◌, List, [], ◌∷◌, ◌++◌, max, map, refl, sym, ap, ◌∙◌, arith, inl, inr, eqb-true, ne_eqb, lt-ltb, le-ltb}
use Rattle.std.proofs.lemmas.Bool.{cases_lt, cases_order, cases_Bool, cond-true, cond-false}
use Rattle.std.proofs.lemmas.List.{append-nil, map-append}
use Rattle.std.proofs.lemmas.List.Elements.{filter-append}
use Rattle.std.proofs.lemmas.Bool.Decides.{nat_tests}
use Rattle.buffer_rows.specs.KeyOrder.{of_key, by_key, key_bound, key_order}

pub none_beyond : {X : Type 0} (key : X → ℕ) (c : ℕ) (xs : List X) → key_bound key xs ≤ c → of_key key c xs ≡ []
none_beyond key c [] h = refl
none_beyond key c (x ∷ xs) h =
    let apart : key x ≢ c = omega (arith, h) in
    cond-false _ _ _ (ne_eqb _ c apart) ∙ none_beyond key c xs (omega (arith, h))

pub same_key_twice : {X : Type 0} (key : X → ℕ) (c : ℕ) (xs : List X) → of_key key c (of_key key c xs) ≡ of_key key c xs
same_key_twice key c [] = refl
same_key_twice key c (x ∷ xs) =
    elim (cases_Bool (key x == c)) [
      | inl at ↦ rw (at, at, same_key_twice key c xs) refl
      | inr off ↦ rw (off, same_key_twice key c xs) refl
    ]

pub two_keys : {X : Type 0} (key : X → ℕ) (c d : ℕ) (xs : List X) → c ≢ d → of_key key c (of_key key d xs) ≡ []
two_keys key c d [] apart = refl
two_keys key c d (x ∷ xs) apart =
    elim (cases_Bool (key x == d)) [
      | inl at ↦
          let same : key x ≡ d = eqb-true (key x) d at in
          let other : (key x == c) ≡ false = ne_eqb (key x) c (λ e. apart (sym e ∙ same)) in
          rw (at, other, two_keys key c d xs apart) refl
      | inr off ↦ rw (off, two_keys key c d xs apart) refl
    ]

key_in_order : {X : Type 0} (key : X → ℕ) (c n : ℕ) (xs : List X) → of_key key c (by_key key n xs) ≡ (if nat_lt c n then of_key key c xs else [])
key_in_order key c zero xs = let off : nat_lt c 0 ≡ false = grind (arith, nat_tests) in rw off refl
key_in_order key c (suc m) xs =
    let front = key_in_order key c m xs in
    let split = filter-append (λ x. key x == c) (by_key key m xs) (of_key key m xs) in
    elim (cases_order c m) [
      | inl same ↦
          let low : nat_lt c m ≡ false = grind (arith, nat_tests, same) in
          let high : nat_lt c (suc m) ≡ true = grind (arith, nat_tests, same) in
          let own = same_key_twice key m xs in
          rw (split, front, low, high, same, own) refl
      | inr (inl below) ↦
          let low : nat_lt c m ≡ true = grind (arith, nat_tests, below) in
          let high : nat_lt c (suc m) ≡ true = grind (arith, nat_tests, below) in
          let other = two_keys key c m xs (λ e. absurd (omega (arith, below, e))) in
          rw (split, front, low, high, other, append-nil) refl
      | inr (inr above) ↦
          let low : nat_lt c m ≡ false = grind (arith, nat_tests, above) in
          let high : nat_lt c (suc m) ≡ false = grind (arith, nat_tests, above) in
          let other = two_keys key c m xs (λ e. absurd (omega (arith, above, e))) in
          rw (split, front, low, high, other) refl
    ]

-- the elements of each key are those of the list
pub keeps_key : {X : Type 0} (key : X → ℕ) (c : ℕ) (xs : List X) → of_key key c (key_order key xs) ≡ of_key key c xs
keeps_key key c xs =
    let all = key_in_order key c (key_bound key xs) xs in
    elim (cases_lt c (key_bound key xs)) [
      | inl below ↦ all ∙ cond-true _ _ _ (lt-ltb c (key_bound key xs) below)
      | inr above ↦ all ∙ (cond-false _ _ _ (le-ltb c (key_bound key xs) above) ∙ sym (none_beyond key c xs above))
    ]

of_key_map : {X Y : Type 0} (key : Y → ℕ) (f : X → Y) (c : ℕ) (xs : List X) → of_key key c (map f xs) ≡ map f (of_key (λ x. key (f x)) c xs)
of_key_map key f c [] = refl
of_key_map key f c (x ∷ xs) =
    elim (key (f x) == c) as (λ t. (if t then f x ∷ of_key key c (map f xs) else of_key key c (map f xs)) ≡ map f (if t then x ∷ of_key (λ y. key (f y)) c xs else of_key (λ y. key (f y)) c xs)) [
      | true ↦ ap (λ ys. f x ∷ ys) (of_key_map key f c xs)
      | false ↦ of_key_map key f c xs
    ]

by_key_map : {X Y : Type 0} (key : Y → ℕ) (f : X → Y) (n : ℕ) (xs : List X) → by_key key n (map f xs) ≡ map f (by_key (λ x. key (f x)) n xs)
by_key_map key f zero xs = refl
by_key_map key f (suc n) xs = rw (by_key_map key f n xs, of_key_map key f n xs) (sym (map-append f (by_key (λ x. key (f x)) n xs) (of_key (λ x. key (f x)) n xs)))

bound_map : {X Y : Type 0} (key : Y → ℕ) (f : X → Y) (xs : List X) → key_bound key (map f xs) ≡ key_bound (λ x. key (f x)) xs
bound_map key f [] = refl
bound_map key f (x ∷ xs) = ap (max (key (f x) + 1)) (bound_map key f xs)

-- the order of changed elements
pub key_order_map : {X Y : Type 0} (key : Y → ℕ) (f : X → Y) (xs : List X) → key_order key (map f xs) ≡ map f (key_order (λ x. key (f x)) xs)
key_order_map key f xs = ap (λ n. by_key key n (map f xs)) (bound_map key f xs) ∙ by_key_map key f (key_bound (λ x. key (f x)) xs) xs

-- two keys that agree on all elements of a list
abbrev pub Agree : {X : Type 0} → (X → ℕ) → (X → ℕ) → List X → Type 0
Agree one other [] = Unit {0}
Agree one other (x ∷ xs) = (one x ≡ other x) × Agree one other xs

of_key_agree : {X : Type 0} (one other : X → ℕ) (c : ℕ) (xs : List X) → Agree one other xs → of_key one c xs ≡ of_key other c xs
of_key_agree one other c [] h = refl
of_key_agree one other c (x ∷ xs) h = ap (λ ys. if one x == c then x ∷ ys else ys) (of_key_agree one other c xs h.1) ∙ ap (λ n. if n == c then x ∷ of_key other c xs else of_key other c xs) h.0

by_key_agree : {X : Type 0} (one other : X → ℕ) (n : ℕ) (xs : List X) → Agree one other xs → by_key one n xs ≡ by_key other n xs
by_key_agree one other zero xs h = refl
by_key_agree one other (suc n) xs h = ap (λ ys. ys ++ of_key one n xs) (by_key_agree one other n xs h) ∙ ap (λ ys. by_key other n xs ++ ys) (of_key_agree one other n xs h)

bound_agree : {X : Type 0} (one other : X → ℕ) (xs : List X) → Agree one other xs → key_bound one xs ≡ key_bound other xs
bound_agree one other [] h = refl
bound_agree one other (x ∷ xs) h = ap (λ n. max (n + 1) (key_bound one xs)) h.0 ∙ ap (max (other x + 1)) (bound_agree one other xs h.1)

-- order a list alike
pub key_order_agree : {X : Type 0} (one other : X → ℕ) (xs : List X) → Agree one other xs → key_order one xs ≡ key_order other xs
key_order_agree one other xs h = ap (λ n. by_key one n xs) (bound_agree one other xs h) ∙ by_key_agree one other (key_bound other xs) xs h

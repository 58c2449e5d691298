-- The first syllable of a list, and the others.
use Rattle.std.proofs.Common.{ℕ, suc, ◌≡◌, ◌<◌, ◌+◌, ◌==◌, Bool, true, false, if◌then◌else◌, List, [], ◌∷◌, ◌≤◌, length, map, take, drop, refl, sym, ap, arith}
use Rattle.std.specs.List.{prefix_len}
use Rattle.std.proofs.lemmas.List.Sums.{prefix_len-le-length}
use Rattle.std.proofs.lemmas.Grind.{common_steps}
use Rattle.buffer_lists.specs.Runs.{run_length}
use Rattle.buffer_stages.specs.Rewriting.{runs_of}

abbrev front_of : {X : Type 0} → (X → ℕ) → X → List X → ℕ
front_of key x xs = prefix_len (λ y. key y == key x) xs

-- the elements of the key of the first are its run
pub first_run : {X : Type 0} (key : X → ℕ) (x : X) (xs : List X) → runs_of key (x ∷ xs) ≡ (x ∷ take (front_of key x xs) xs) ∷ runs_of key (drop (front_of key x xs) xs)
first_run key x [] = refl
first_run key x (y ∷ ys) = rw (first_run key y ys) (by_test (key y == key x) refl (first_run key y ys))
  where
    same_front : key y ≡ key x → front_of key x ys ≡ front_of key y ys
    same_front e = rw e refl

    by_test : (t : Bool) → (key y == key x) ≡ t → runs_of key (y ∷ ys) ≡ (y ∷ take (front_of key y ys) ys) ∷ runs_of key (drop (front_of key y ys) ys)
        → (if t then (x ∷ y ∷ take (front_of key y ys) ys) ∷ runs_of key (drop (front_of key y ys) ys) else (x ∷ []) ∷ (y ∷ take (front_of key y ys) ys) ∷ runs_of key (drop (front_of key y ys) ys))
        ≡ (x ∷ take (if t then 1 + front_of key x ys else 0) (y ∷ ys)) ∷ runs_of key (drop (if t then 1 + front_of key x ys else 0) (y ∷ ys))
    by_test true e later =
        let same : key y ≡ key x = grind (arith, common_steps, e) in
        let n : 1 + front_of key x ys ≡ suc (front_of key y ys) = omega (arith, same_front same) in
        rw n refl
    by_test false e later = ap (λ runs. (x ∷ []) ∷ runs) (sym later)

run_seen : {X Y : Type 0} (key : Y → ℕ) (v : X → Y) (n : ℕ) (xs : List X) → prefix_len (λ x. key (v x) == n) xs ≡ prefix_len (λ y. key y == n) (map v xs)
run_seen key v n [] = refl
run_seen key v n (x ∷ xs) = rw (run_seen key v n xs) refl

-- a run is as long in what is seen
pub seen_length : {X Y : Type 0} (key : Y → ℕ) (v : X → Y) (xs : List X) → run_length (λ x. key (v x)) xs ≡ run_length key (map v xs)
seen_length key v [] = refl
seen_length key v (x ∷ xs) = ap suc (run_seen key v (key (v x)) xs)

pub first_cut : {X : Type 0} (key : X → ℕ) (xs : List X) → 0 < length xs → runs_of key xs ≡ take (run_length key xs) xs ∷ runs_of key (drop (run_length key xs) xs)
first_cut key [] lt = absurd (omega (arith, lt))
first_cut key (x ∷ xs) lt = first_run key x xs

pub run_within : {X : Type 0} (key : X → ℕ) (xs : List X) → 0 < length xs → (0 < run_length key xs) × (run_length key xs ≤ length xs)
run_within key [] lt = absurd (omega (arith, lt))
run_within key (x ∷ xs) lt = (omega arith, omega (arith, prefix_len-le-length (λ y. key y == key x) xs))

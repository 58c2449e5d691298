-- Records in the strict order of their keys.
use Rattle.std.specs.Prelude.{ℕ, ◌&&◌, ◌==◌, if◌then◌else◌, Bool, true, List, [], ◌∷◌, ◌++◌, map, filter, Option, Some, None, find}
use Rattle.std.specs.declared.cmp.Ordering.{Ordering}
use Rattle.std.specs.Ordering.{is_lt, is_gt, is_eq, nat_cmp}

-- whether a key is greater than the one before it, if there is one
abbrev pub is_above : {K : Type 0} → (K → K → Ordering) → Option K → K → Bool
is_above order None k = true
is_above order (Some b) k = is_lt (order b k)

-- whether each key is greater than the one before it
abbrev pub is_rising : {R K : Type 0} → (K → K → Ordering) → (R → K) → Option K → List R → Bool
is_rising order key before [] = true
is_rising order key before (r ∷ rows) = is_above order before (key r) && is_rising order key (Some (key r)) rows

-- the record of a key
abbrev pub row_with : {R K : Type 0} → (K → K → Ordering) → (R → K) → K → List R → Option R
row_with order key k rows = find (λ r. is_eq (order (key r) k)) rows

-- the records with another in the place of that of its key
abbrev pub with_row : {R K : Type 0} → (K → K → Ordering) → (R → K) → R → List R → List R
with_row order key row rows = map (λ r. if is_eq (order (key r) (key row)) then row else r) rows

-- the records of lesser keys
abbrev pub rows_below : {R K : Type 0} → (K → K → Ordering) → (R → K) → K → List R → List R
rows_below order key k rows = filter (λ r. is_lt (order (key r) k)) rows

-- the records of greater keys
abbrev pub rows_above : {R K : Type 0} → (K → K → Ordering) → (R → K) → K → List R → List R
rows_above order key k rows = filter (λ r. is_gt (order (key r) k)) rows

-- the records with another between those of lesser and of greater keys, in the place of that of its key if there is one
abbrev pub with_inserted : {R K : Type 0} → (K → K → Ordering) → (R → K) → R → List R → List R
with_inserted order key row rows = rows_below order key (key row) rows ++ row ∷ rows_above order key (key row) rows

-- the records of all other keys
abbrev pub without_key : {R K : Type 0} → (K → K → Ordering) → (R → K) → K → List R → List R
without_key order key k rows = rows_below order key k rows ++ rows_above order key k rows

-- ---- keys that are numbers

-- whether numbers rise strictly
abbrev pub numbers_rise : {R : Type 0} → (R → ℕ) → List R → Bool
numbers_rise key rows = is_rising nat_cmp key None rows

-- the record of a number
abbrev pub row_of : {R : Type 0} → (R → ℕ) → ℕ → List R → Option R
row_of key k rows = find (λ r. key r == k) rows

-- The rows of a list, each of which must be in order with the one before it.
use Rattle.std.specs.Prelude.{◌&&◌, Bool, true, if◌then◌else◌, List, [], ◌∷◌, ◌++◌, Option, Some, None, Result, Ok, Err}
use Rattle.std.proofs.Common.{◌≡◌, refl, subst}
use Rattle.std.specs.declared.cmp.Ordering.{Ordering}
use Rattle.std.specs.Ordering.{is_lt}
use Rattle.serde_json.specs.Data.{Data, Items, no_items, item}
use Rattle.shell_json.specs.declared.fault.JsonFault.{JsonFault}
use Rattle.shell_json.specs.declared.fault.JsonFault.TheVariants.{OutOfOrder}
use Rattle.shell_json.specs.Cell.{and_then}

-- rows after other rows
abbrev pub after : {R : Type 0} → List R → Result (List R) JsonFault → Result (List R) JsonFault
after front (Ok rows) = Ok (front ++ rows)
after front (Err e) = Err e

-- a row, if its key may follow the key before it
abbrev pub row_in_order : {R K : Type 0} → (Option K → K → Bool) → (R → K) → Option K → R → Result R JsonFault
row_in_order follows key before r = if follows before (key r) then Ok r else Err OutOfOrder

-- a row after a row with the key `before`: the row's own faults come before that of its order
abbrev pub row_after : {R K : Type 0} → (Option K → K → Bool) → (R → K) → (Data → Result R JsonFault) → Option K → Data → Result R JsonFault
row_after follows key read before d = and_then (read d) (row_in_order follows key before)

-- the rows of a list, after a row with the key `before`: the fault of the first faulty row is the result
abbrev pub rows_after : {R K : Type 0} → (Option K → K → Bool) → (R → K) → (Data → Result R JsonFault) → Option K → Items → Result (List R) JsonFault
rows_after follows key read before no_items = Ok []
rows_after follows key read before (item d ds) =
    and_then (row_after follows key read before d) (λ r. after (r ∷ []) (rows_after follows key read (Some (key r)) ds))

-- the key of each row may follow that of the row before it
abbrev pub all_follow : {R K : Type 0} → (Option K → K → Bool) → (R → K) → Option K → List R → Bool
all_follow follows key before [] = true
all_follow follows key before (r ∷ rows) = follows before (key r) && all_follow follows key (Some (key r)) rows

-- ---- rows of a key and a value

-- the key k is greater than the key before it, if there is one
abbrev pub is_above : {K : Type 0} → (K → K → Ordering) → Option K → K → Bool
is_above cmp None k = true
is_above cmp (Some b) k = is_lt (cmp b k)

-- each key is greater than the one before it
abbrev pub is_rising : {K V : Type 0} → (K → K → Ordering) → Option K → List (K × V) → Bool
is_rising cmp before rows = all_follow (is_above cmp) (λ r. r.0) before rows

-- lemma: a property of the rest holds of the whole list, where the rest was read without a fault
pub ok_cons : {R : Type 0} (r : R) (rest : Result (List R) JsonFault) (rows : List R) (P : List R → Type 0) → after (r ∷ []) rest ≡ Ok rows → ((xs : List R) → rest ≡ Ok xs → P (r ∷ xs)) → P rows
ok_cons r (Ok xs) rows P e have = let same : r ∷ xs ≡ rows = cc in subst P same (have xs refl)
ok_cons r (Err f) rows P e have = let no : ⊥ = cc in absurd no

-- Rows that were read follow one another.
use Rattle.std.proofs.Common.{◌≡◌, Bool, true, false, List, [], ◌∷◌, Option, Some, Result, Ok, Err, if◌then◌else◌, refl, subst}
use Rattle.serde_json.specs.Data.{Data, Items, no_items, item}
use Rattle.shell_json.specs.declared.fault.JsonFault.{JsonFault}
use Rattle.shell_json.specs.declared.fault.JsonFault.TheVariants.{OutOfOrder}
use Rattle.shell_json.specs.Cell.{and_then}
use Rattle.shell_json.specs.Rows.{after, row_in_order, rows_after, all_follow, ok_cons}

module _ {R K : Type 0} (follows : Option K → K → Bool) (key : R → K) where
  placed : (next : R → Result (List R) JsonFault) (before : Option K) (r : R) (rows : List R) (b : Bool) → follows before (key r) ≡ b
      → and_then (if b then Ok r else Err OutOfOrder) (λ x. after (x ∷ []) (next x)) ≡ Ok rows
      → ((xs : List R) → next r ≡ Ok xs → all_follow follows key (Some (key r)) xs ≡ true) → all_follow follows key before rows ≡ true
  placed next before r rows true above e have = ok_cons r (next r) rows (λ xs. all_follow follows key before xs ≡ true) e (λ xs was. rw (above, have xs was) refl)
  placed next before r rows false above e have = let no : ⊥ = cc in absurd no

  read_one : (next : R → Result (List R) JsonFault) (before : Option K) (o : Result R JsonFault) (rows : List R)
      → and_then (and_then o (row_in_order follows key before)) (λ x. after (x ∷ []) (next x)) ≡ Ok rows
      → ((r : R) (xs : List R) → next r ≡ Ok xs → all_follow follows key (Some (key r)) xs ≡ true) → all_follow follows key before rows ≡ true
  read_one next before (Ok r) rows e have = placed next before r rows (follows before (key r)) refl e (have r)
  read_one next before (Err f) rows e have = let no : ⊥ = cc in absurd no

  pub rows_follow : (read : Data → Result R JsonFault) (before : Option K) (ds : Items) (rows : List R)
      → rows_after follows key read before ds ≡ Ok rows → all_follow follows key before rows ≡ true
  rows_follow read before no_items rows e = let same : [] ≡ rows = cc in subst (λ xs. all_follow follows key before xs ≡ true) same refl
  rows_follow read before (item d ds) rows e =
      read_one (λ r. rows_after follows key read (Some (key r)) ds) before (read d) rows e (λ r xs was. rows_follow read (Some (key r)) ds xs was)

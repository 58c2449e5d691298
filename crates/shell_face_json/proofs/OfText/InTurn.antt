-- Rows that were read in turn and rise are the rows by their keys.
use Rattle.std.proofs.Common.{◌≡◌, true, List, [], ◌∷◌, ◌++◌, Option, Some, None, Result, Ok, Err, refl, sym, ap, ◌∙◌, append_assoc, append-nil}
use Rattle.std.proofs.lemmas.Bool.{and_parts}
use Rattle.std.specs.declared.cmp.Ordering.{Ordering}
use Rattle.json.specs.Token.{Token}
use Rattle.json.specs.Json.{parse_map}
use Rattle.serde_json.specs.Data.{Data, Items, no_items, item}
use Rattle.shell_json.specs.declared.fault.JsonFault.{JsonFault}
use Rattle.shell_json.specs.Cell.{and_then}
use Rattle.shell_json.specs.Items.{list_of}
use Rattle.shell_json.specs.Rows.{after, row_in_order, rows_after, ok_cons}
use Rattle.buffer_rows.specs.Keys.{is_above, is_rising}
use Rattle.shell_face_json.specs.Lists.{rows_in_turn}
use Rattle.shell_face_json.specs.Sorted.{rows_by_key}

module _ {R K : Type 0} (order : K → K → Ordering) (key : R → K) (read : Data → Result R JsonFault) where
  one_row : (before : Option K) (ds : Items) (x : Result R JsonFault) (rows : List R)
      → and_then x (λ r. after (r ∷ []) (rows_in_turn read ds)) ≡ Ok rows → is_rising order key before rows ≡ true
      → ((r : R) (xs : List R) → rows_in_turn read ds ≡ Ok xs → is_rising order key (Some (key r)) xs ≡ true → rows_after (is_above order) key read (Some (key r)) ds ≡ Ok xs)
      → and_then (and_then x (row_in_order (is_above order) key before)) (λ r. after (r ∷ []) (rows_after (is_above order) key read (Some (key r)) ds)) ≡ Ok rows
  one_row before ds (Err e) rows is rising more = let no : ⊥ = cc in absurd no
  one_row before ds (Ok r) rows is rising more =
      ok_cons r (rows_in_turn read ds) rows
      (λ xs. is_rising order key before xs ≡ true → and_then (and_then (Ok r) (row_in_order (is_above order) key before)) (λ y. after (y ∷ []) (rows_after (is_above order) key read (Some (key y)) ds)) ≡ Ok xs)
      is
      (λ xs was up.
      let parts = and_parts (is_above order before (key r)) (is_rising order key (Some (key r)) xs) up in
      rw (parts.0, more r xs was parts.1) refl)
      rising

  in_order : (before : Option K) (ds : Items) (rows : List R) → rows_in_turn read ds ≡ Ok rows → is_rising order key before rows ≡ true → rows_after (is_above order) key read before ds ≡ Ok rows
  in_order before no_items rows is rising = is
  in_order before (item d ds) rows is rising = one_row before ds (read d) rows is rising (λ r xs. in_order (Some (key r)) ds xs)

  of_list : (o : Result Items JsonFault) (rows : List R) → and_then o (rows_in_turn read) ≡ Ok rows → is_rising order key None rows ≡ true
      → and_then o (rows_by_key order key read None) ≡ Ok rows
  unfolding rows_by_key
  of_list (Ok ds) rows is rising = in_order None ds rows is rising
  of_list (Err e) rows is rising = is

  pub rows_in_order : (d : Data) (rows : List R) → and_then (list_of d) (rows_in_turn read) ≡ Ok rows → is_rising order key None rows ≡ true
      → and_then (list_of d) (rows_by_key order key read None) ≡ Ok rows
  rows_in_order d rows is rising = of_list (list_of d) rows is rising

-- ---- items in turn

module _ {R : Type 0} (read : Data → Result R JsonFault) where
  none_before : (x : Result (List R) JsonFault) → x ≡ after [] x
  none_before (Ok xs) = refl
  none_before (Err e) = refl

  pub first_items : (ds : Items) (front : List R) → front ≡ [] → rows_in_turn read ds ≡ after front (rows_in_turn read ds)
  first_items ds front e = none_before (rows_in_turn read ds) ∙ ap (λ xs. after xs (rows_in_turn read ds)) (sym e)

  after_twice : (front : List R) (r : R) (x : Result (List R) JsonFault) → after front (after (r ∷ []) x) ≡ after (front ++ r ∷ []) x
  after_twice front r (Ok xs) = ap (λ ys. Ok ys) (sym (append_assoc front (r ∷ []) xs))
  after_twice front r (Err e) = refl

  pub one_more : (front : List R) (d : Data) (es ds : Items) (r : R) (all : List R) → ds ≡ item d es → read d ≡ Ok r → all ≡ front ++ r ∷ []
      → after front (rows_in_turn read ds) ≡ after all (rows_in_turn read es)
  one_more front d es ds r all is one pushed =
      ap (λ x. after front (rows_in_turn read x)) is ∙ ap (λ x. after front (and_then x (λ y. after (y ∷ []) (rows_in_turn read es)))) one ∙ after_twice front r (rows_in_turn read es)
      ∙ ap (λ xs. after xs (rows_in_turn read es)) (sym pushed)

  pub last_items : (front : List R) (ds : Items) → no_items ≡ ds → after front (rows_in_turn read ds) ≡ Ok front
  last_items front ds e = ap (λ x. after front (rows_in_turn read x)) (sym e) ∙ ap (λ ys. Ok ys) (append-nil front)

-- an item more before those that are left
pub item_before : (before : (Items → Items)) (d : Data) (o : Option (Items × List Token)) → parse_map before (parse_map (item d) o) ≡ parse_map (λ ds. before (item d ds)) o
item_before before d None = refl
item_before before d (Some p) = refl

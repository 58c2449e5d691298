-- A record between those of lesser and of greater keys.
use Rattle.std.proofs.Common.{◌≡◌, ℕ, zero, suc, ◌<◌, ◌≤◌, true, false, List, [], ◌∷◌, length, get_or, set, take, drop, Option, Some, None, refl, sym, ap, ◌∙◌, arith}
use mathlib.Core.Bool.{false≢true}
use Rattle.std.specs.List.{insert, remove}
use Rattle.std.specs.declared.cmp.Ordering.{Ordering}
use Rattle.std.specs.declared.cmp.Ordering.TheVariants.{Less, Equal, Greater}
use Rattle.std.specs.Ordering.{is_lt, ordering_reverse}
use Rattle.std.specs.Cmp.{IsTotalOrder, alike_right}
use Rattle.std.proofs.lemmas.List.{take-append-drop}
use Rattle.buffer_rows.specs.Keys.{is_above, is_rising, rows_above, rows_below, with_inserted, without_key}
use Rattle.buffer_facts.proofs.Truth.{both_true as both_parts}
use Rattle.buffer_rows.proofs.Replaced.{rising_alike}
use Rattle.buffer_rows.proofs.Searched.{below_each, is_less}

take_none : {X : Type 0} (xs : List X) → take zero xs ≡ []
take_none [] = refl
take_none (x ∷ xs) = refl

drop_none : {X : Type 0} (xs : List X) → drop zero xs ≡ xs
drop_none [] = refl
drop_none (x ∷ xs) = refl

module _ {R K : Type 0} (order : K → K → Ordering) (total : IsTotalOrder order) (key : R → K) where
  -- ---- records above a key

  over_by : (o : Ordering) (b k x : K) → order b k ≡ o → is_lt o ≡ false → order b x ≡ Less → order k x ≡ Less
  over_by Less b k x e n h = absurd (false≢true (sym n))
  over_by Equal b k x e n h = sym (total.congr b k x e) ∙ h
  over_by Greater b k x e n h = total.trans k b x (total.antisymm k b ∙ ap ordering_reverse e) h

  over : (b k x : K) → is_lt (order b k) ≡ false → order b x ≡ Less → order x k ≡ Greater
  over b k x n h = total.antisymm x k ∙ ap ordering_reverse (over_by (order b k) b k x refl n h)

  none_below : (b k : K) (rows : List R) → is_lt (order b k) ≡ false → is_rising order key (Some b) rows ≡ true → rows_below order key k rows ≡ []
  none_below b k [] n rising = refl
  none_below b k (r ∷ rows) n rising =
      let parts = both_parts _ _ rising in
      let more : order (key r) k ≡ Greater = over b k (key r) n (is_less _ parts.0) in
      rw more (none_below (key r) k rows (ap is_lt more) parts.1)

  all_above : (b k : K) (rows : List R) → is_lt (order b k) ≡ false → is_rising order key (Some b) rows ≡ true → rows_above order key k rows ≡ rows
  all_above b k [] n rising = refl
  all_above b k (r ∷ rows) n rising =
      let parts = both_parts _ _ rising in
      let more : order (key r) k ≡ Greater = over b k (key r) n (is_less _ parts.0) in
      rw more (ap (λ rs. r ∷ rs) (all_above (key r) k rows (ap is_lt more) parts.1))

  -- ---- the order stays

  above_lower : (before : Option K) (x y : K) → is_above order before x ≡ true → order x y ≡ Less → is_above order before y ≡ true
  above_lower None x y h e = refl
  above_lower (Some b) x y h e = ap is_lt (total.trans b x y (is_less _ h) e)

  rising_lower : (before : Option K) (x : K) (rows : List R) → is_above order before x ≡ true → is_rising order key (Some x) rows ≡ true → is_rising order key before rows ≡ true
  rising_lower before x [] h rising = refl
  rising_lower before x (r ∷ rows) h rising =
      let parts = both_parts _ _ rising in
      rw (above_lower before x (key r) h (is_less _ parts.0)) parts.1

  inserted_by : (o : Ordering) (before : Option K) (row r : R) (rows : List R) → order (key r) (key row) ≡ o → is_above order before (key row) ≡ true → is_rising order key before (r ∷ rows) ≡ true
      → (o ≡ Less → is_rising order key (Some (key r)) (with_inserted order key row rows) ≡ true) → is_rising order key before (with_inserted order key row (r ∷ rows)) ≡ true
  inserted_by Less before row r rows e above rising rest =
      let parts = both_parts (is_above order before (key r)) (is_rising order key (Some (key r)) rows) rising in
      rw e (rw parts.0 (rest refl))
  inserted_by Equal before row r rows e above rising rest =
      let parts = both_parts (is_above order before (key r)) (is_rising order key (Some (key r)) rows) rising in
      let none = none_below (key r) (key row) rows (ap is_lt e) parts.1 in
      let all = all_above (key r) (key row) rows (ap is_lt e) parts.1 in
      rw e (rw none (rw all (rw above (rising_alike order total key (key r) (key row) rows e ∙ parts.1))))
  inserted_by Greater before row r rows e above rising rest =
      let parts = both_parts (is_above order before (key r)) (is_rising order key (Some (key r)) rows) rising in
      let none = none_below (key r) (key row) rows (ap is_lt e) parts.1 in
      let all = all_above (key r) (key row) rows (ap is_lt e) parts.1 in
      let less : order (key row) (key r) ≡ Less = total.antisymm (key row) (key r) ∙ ap ordering_reverse e in
      rw e (rw none (rw all (rw above (rw less parts.1))))

  rising_inserted : (before : Option K) (row : R) (rows : List R) → is_above order before (key row) ≡ true → is_rising order key before rows ≡ true → is_rising order key before (with_inserted order key row rows) ≡ true
  rising_inserted before row [] above rising = rw above refl
  rising_inserted before row (r ∷ rows) above rising =
      let parts = both_parts _ _ rising in
      inserted_by (order (key r) (key row)) before row r rows refl above rising (λ less. rising_inserted (Some (key r)) row rows (ap is_lt less) parts.1)

  pub inserted_rises : (row : R) (rows : List R) → is_rising order key None rows ≡ true → is_rising order key None (with_inserted order key row rows) ≡ true
  inserted_rises row rows rising = rising_inserted None row rows refl rising

  removed_by : (o : Ordering) (before : Option K) (k : K) (r : R) (rows : List R) → order (key r) k ≡ o → is_rising order key before (r ∷ rows) ≡ true
      → is_rising order key (Some (key r)) (without_key order key k rows) ≡ true → is_rising order key before (without_key order key k (r ∷ rows)) ≡ true
  removed_by Less before k r rows e rising rest =
      let parts = both_parts (is_above order before (key r)) (is_rising order key (Some (key r)) rows) rising in
      rw e (rw parts.0 rest)
  removed_by Equal before k r rows e rising rest =
      let parts = both_parts (is_above order before (key r)) (is_rising order key (Some (key r)) rows) rising in
      let none = none_below (key r) k rows (ap is_lt e) parts.1 in
      let all = all_above (key r) k rows (ap is_lt e) parts.1 in
      rw e (rw none (rw all (rising_lower before (key r) rows parts.0 parts.1)))
  removed_by Greater before k r rows e rising rest =
      let parts = both_parts (is_above order before (key r)) (is_rising order key (Some (key r)) rows) rising in
      let none = none_below (key r) k rows (ap is_lt e) parts.1 in
      let all = all_above (key r) k rows (ap is_lt e) parts.1 in
      rw e (rw none (rw all rising))

  rising_removed : (before : Option K) (k : K) (rows : List R) → is_rising order key before rows ≡ true → is_rising order key before (without_key order key k rows) ≡ true
  rising_removed before k [] rising = refl
  rising_removed before k (r ∷ rows) rising =
      let parts = both_parts _ _ rising in
      removed_by (order (key r) k) before k r rows refl rising (rising_removed (Some (key r)) k rows parts.1)

  pub rest_rises : (k : K) (rows : List R) → is_rising order key None rows ≡ true → is_rising order key None (without_key order key k rows) ≡ true
  rest_rises k rows rising = rising_removed None k rows rising

  -- ---- at an index

  below_first : (k : K) (rows : List R) (i : ℕ) → i ≤ length rows → ((j : ℕ) (d : R) → j < i → order (key (get_or rows j d)) k ≡ Less) → ((j : ℕ) (d : R) → i ≤ j → j < length rows → order (key (get_or rows j d)) k ≡ Greater)
      → rows_below order key k rows ≡ take i rows
  below_first k [] zero le low high = refl
  below_first k [] (suc i) le low high = refl
  below_first k (r ∷ rows) zero le low high =
      let more : order (key r) k ≡ Greater = high 0 r (omega arith) (omega arith) in
      rw more (below_first k rows zero (omega arith) (λ j d lt. absurd (omega (arith, lt))) (λ j d ge lt. high (suc j) d (omega arith) (omega (arith, lt))) ∙ take_none rows)
  below_first k (r ∷ rows) (suc i) le low high =
      let less : order (key r) k ≡ Less = low 0 r (omega arith) in
      rw less (ap (λ rs. r ∷ rs) (below_first k rows i (omega (arith, le)) (λ j d lt. low (suc j) d (omega (arith, lt))) (λ j d ge lt. high (suc j) d (omega (arith, ge)) (omega (arith, lt)))))

  above_from : (k : K) (rows : List R) (i : ℕ) → i ≤ length rows → ((j : ℕ) (d : R) → j < i → order (key (get_or rows j d)) k ≡ Less) → ((j : ℕ) (d : R) → i ≤ j → j < length rows → order (key (get_or rows j d)) k ≡ Greater)
      → rows_above order key k rows ≡ drop i rows
  above_from k [] zero le low high = refl
  above_from k [] (suc i) le low high = refl
  above_from k (r ∷ rows) zero le low high =
      let more : order (key r) k ≡ Greater = high 0 r (omega arith) (omega arith) in
      rw more (ap (λ rs. r ∷ rs) (above_from k rows zero (omega arith) (λ j d lt. absurd (omega (arith, lt))) (λ j d ge lt. high (suc j) d (omega arith) (omega (arith, lt))) ∙ drop_none rows))
  above_from k (r ∷ rows) (suc i) le low high =
      let less : order (key r) k ≡ Less = low 0 r (omega arith) in
      rw less (above_from k rows i (omega (arith, le)) (λ j d lt. low (suc j) d (omega (arith, lt))) (λ j d ge lt. high (suc j) d (omega (arith, ge)) (omega (arith, lt))))

  -- a record is inserted before those of greater keys
  pub row_inserted : (rows : List R) (i : ℕ) (row : R) → i ≤ length rows → ((j : ℕ) (d : R) → j < i → order (key (get_or rows j d)) (key row) ≡ Less) → ((j : ℕ) (d : R) → i ≤ j → j < length rows → order (key (get_or rows j d)) (key row) ≡ Greater)
      → insert rows i row ≡ with_inserted order key row rows
  row_inserted rows i row le low high = rw (below_first (key row) rows i le low high, above_from (key row) rows i le low high) refl

  -- records of which none has the key stay
  pub none_removed : (rows : List R) (i : ℕ) (k : K) → i ≤ length rows → ((j : ℕ) (d : R) → j < i → order (key (get_or rows j d)) k ≡ Less) → ((j : ℕ) (d : R) → i ≤ j → j < length rows → order (key (get_or rows j d)) k ≡ Greater)
      → rows ≡ without_key order key k rows
  none_removed rows i k le low high = rw (below_first k rows i le low high, above_from k rows i le low high) (sym (take-append-drop i rows))

  less_before : (r : R) (rows : List R) (i : ℕ) (k : K) (d : R) → is_rising order key (Some (key r)) rows ≡ true → i < length rows → order (key (get_or rows i d)) k ≡ Equal → order (key r) k ≡ Less
  less_before r rows i k d rising h e = sym (alike_right total _ _ (key r) e) ∙ below_each order total key (key r) rows i d rising h

  -- a record is put in the place of that of its key
  put_by : (before : Option K) (rows : List R) (i : ℕ) (row d : R) → is_rising order key before rows ≡ true → i < length rows → order (key (get_or rows i d)) (key row) ≡ Equal → set rows i row ≡ with_inserted order key row rows
  put_by before [] i row d rising h e = absurd (omega (arith, h))
  put_by before (r ∷ rows) zero row d rising h e =
      let rest = (both_parts _ _ rising).1 in
      rw e (rw (none_below (key r) (key row) rows (ap is_lt e) rest, all_above (key r) (key row) rows (ap is_lt e) rest) refl)
  put_by before (r ∷ rows) (suc i) row d rising h e =
      let low : i < length rows = omega (arith, h) in
      let rest : is_rising order key (Some (key r)) rows ≡ true = (both_parts _ _ rising).1 in
      rw (less_before r rows i (key row) d rest low e) (ap (λ rs. r ∷ rs) (put_by (Some (key r)) rows i row d rest low e))

  pub row_put : (rows : List R) (i : ℕ) (row d : R) → is_rising order key None rows ≡ true → i < length rows → order (key (get_or rows i d)) (key row) ≡ Equal → set rows i row ≡ with_inserted order key row rows
  row_put rows i row d rising h e = put_by None rows i row d rising h e

  removed_at : (before : Option K) (rows : List R) (i : ℕ) (k : K) (d : R) → is_rising order key before rows ≡ true → i < length rows → order (key (get_or rows i d)) k ≡ Equal → remove rows i ≡ without_key order key k rows
  removed_at before [] i k d rising h e = absurd (omega (arith, h))
  removed_at before (r ∷ rows) zero k d rising h e =
      let rest = (both_parts _ _ rising).1 in
      rw e (rw (none_below (key r) k rows (ap is_lt e) rest, all_above (key r) k rows (ap is_lt e) rest) (drop_none rows))
  removed_at before (r ∷ rows) (suc i) k d rising h e =
      let low : i < length rows = omega (arith, h) in
      let rest : is_rising order key (Some (key r)) rows ≡ true = (both_parts _ _ rising).1 in
      rw (less_before r rows i k d rest low e) (ap (λ rs. r ∷ rs) (removed_at (Some (key r)) rows i k d rest low e))

  -- the record of a key is removed
  pub row_removed : (rows : List R) (i : ℕ) (k : K) (d : R) → is_rising order key None rows ≡ true → i < length rows → order (key (get_or rows i d)) k ≡ Equal → remove rows i ≡ without_key order key k rows
  row_removed rows i k d rising h e = removed_at None rows i k d rising h e

-- A record in the place of that of its key.
use Rattle.std.proofs.Common.{◌≡◌, ℕ, zero, suc, ◌<◌, Bool, true, false, ◌&&◌, ◌==◌, if◌then◌else◌, List, [], ◌∷◌, length, map, get_or, set, Option, Some, None, refl, sym, ap, ◌∙◌, arith}
use Rattle.std.specs.declared.cmp.Ordering.{Ordering}
use Rattle.std.specs.declared.cmp.Ordering.TheVariants.{Less, Equal}
use Rattle.std.specs.Ordering.{is_lt, is_eq, nat_cmp, ordering_reverse}
use Rattle.std.specs.Cmp.{IsTotalOrder, alike_right}
use Rattle.buffer_rows.specs.Keys.{is_above, is_rising, row_with, with_row}
use Rattle.buffer_facts.proofs.Truth.{both_true as both_parts}
use Rattle.buffer_rows.proofs.Searched.{below_each, equal_numbers, less_apart, row_missing}

module _ {R K : Type 0} (order : K → K → Ordering) (total : IsTotalOrder order) (key : R → K) where
  above_alike : (before : Option K) (x y : K) → order x y ≡ Equal → is_above order before y ≡ is_above order before x
  above_alike None x y e = refl
  above_alike (Some b) x y e = ap is_lt (sym (alike_right total x y b e))

  pub rising_alike : (x y : K) (rows : List R) → order x y ≡ Equal → is_rising order key (Some y) rows ≡ is_rising order key (Some x) rows
  rising_alike x y [] e = refl
  rising_alike x y (r ∷ rows) e = ap (λ o. is_lt o && is_rising order key (Some (key r)) rows) (sym (total.congr x y (key r) e))

  -- the order stays
  pub rising_replaced : (before : Option K) (rows : List R) (i : ℕ) (row d : R) → i < length rows → order (key (get_or rows i d)) (key row) ≡ Equal → is_rising order key before (set rows i row) ≡ is_rising order key before rows
  rising_replaced before [] i row d h e = absurd (omega (arith, h))
  rising_replaced before (r ∷ rows) zero row d h e = rw (above_alike before (key r) (key row) e, rising_alike (key r) (key row) rows e) refl
  rising_replaced before (r ∷ rows) (suc i) row d h e = ap (λ b. is_above order before (key r) && b) (rising_replaced (Some (key r)) rows i row d (omega (arith, h)) e)

  kept_by : (b : Bool) (r : R) (rows : List R) (row : R) → is_eq (order (key r) (key row)) ≡ b → (None ≡ row_with order key (key row) rows → with_row order key row rows ≡ rows) → None ≡ row_with order key (key row) (r ∷ rows) → with_row order key row (r ∷ rows) ≡ r ∷ rows
  kept_by true r rows row e rest none = let some : row_with order key (key row) (r ∷ rows) ≡ Some r = rw e refl in cc
  kept_by false r rows row e rest none = rw e (ap (λ rs. r ∷ rs) (rest (none ∙ (rw e refl))))

  -- records of which none has the key stay
  pub none_replaced : (rows : List R) (row : R) → None ≡ row_with order key (key row) rows → with_row order key row rows ≡ rows
  none_replaced [] row none = refl
  none_replaced (r ∷ rows) row none = kept_by (is_eq (order (key r) (key row))) r rows row refl (none_replaced rows row) none

  -- no later record has the key of the first
  none_later : (r row : R) (rows : List R) → is_rising order key (Some (key r)) rows ≡ true → order (key r) (key row) ≡ Equal → None ≡ row_with order key (key row) rows
  none_later r row rows rising e = row_missing order total key rows (key row) (λ i d h same.
      let less : order (key row) (key (get_or rows i d)) ≡ Less = sym (total.congr (key r) (key row) (key (get_or rows i d)) e) ∙ below_each order total key (key r) rows i d rising h in
      let back : order (key row) (key (get_or rows i d)) ≡ Equal = total.antisymm (key row) (key (get_or rows i d)) ∙ ap ordering_reverse same in
      less_apart less back)

  -- the record at the index of the key's is replaced
  pub row_replaced : (before : Option K) (rows : List R) (i : ℕ) (row d : R) → is_rising order key before rows ≡ true → i < length rows → order (key (get_or rows i d)) (key row) ≡ Equal → set rows i row ≡ with_row order key row rows
  row_replaced before [] i row d rising h e = absurd (omega (arith, h))
  row_replaced before (r ∷ rows) zero row d rising h e =
      rw e (ap (λ rs. row ∷ rs) (sym (none_replaced rows row (none_later r row rows ((both_parts _ _ rising).1) e))))
  row_replaced before (r ∷ rows) (suc i) row d rising h e =
      let low : i < length rows = omega (arith, h) in
      let rest : is_rising order key (Some (key r)) rows ≡ true = (both_parts _ _ rising).1 in
      let less : order (key r) (key row) ≡ Less = sym (alike_right total _ _ (key r) e) ∙ below_each order total key (key r) rows i d rest low in
      rw less (ap (λ rs. r ∷ rs) (row_replaced (Some (key r)) rows i row d rest low e))

-- at numbers the record of an equal key is replaced
pub number_replaced : {R : Type 0} (key : R → ℕ) (row : R) (rows : List R) → with_row nat_cmp key row rows ≡ map (λ r. if key r == key row then row else r) rows
number_replaced key row [] = refl
number_replaced key row (r ∷ rows) = rw (equal_numbers (key r) (key row), number_replaced key row rows) refl

-- A record in the place of that of its number: the index stays that of the records.
use Rattle.std.proofs.Common.{◌≡◌, ◌≢◌, ℕ, ◌<◌, ◌≤◌, ◌-◌, ◌+◌, Bool, true, false, ◌==◌, if◌then◌else◌, List, [], ◌∷◌, length, map, get_or, set, slice_get, Option, Some, None, option_map, inl, inr, refl, sym, ap, subst, ◌∙◌, eqb-true, arith}
use Rattle.std.specs.declared.cmp.Ordering.TheVariants.{Less, Equal, Greater}
use Rattle.std.specs.List.{insert, remove}
use Rattle.std.specs.Cmp.{nat_cmp_is}
use Rattle.std.specs.Ordering.{nat_cmp}
use Rattle.std.proofs.lemmas.Bool.{cases_Bool}
use Rattle.std.proofs.lemmas.Cmp.{nat_cmp_total}
use Rattle.std.proofs.lemmas.Option.{same_Some, slice_get-map}
use Rattle.buffer_rows.specs.Keys.{numbers_rise, row_of, with_inserted, without_key}
use Rattle.buffer_rows.specs.Pages.{ArePages, IsBlock, IsPage, IsPaged, IsStart, record_in}
use Rattle.buffer_rows.proofs.DenseSlots.{equal_number}
use Rattle.buffer_rows.proofs.Paged.{never_falls}
use Rattle.buffer_rows.proofs.Inserted.{inserted_rises, none_removed, rest_rises, row_inserted, row_put, row_removed}
use Rattle.buffer_rows.proofs.Replaced.{number_replaced, rising_replaced, row_replaced}
use Rattle.buffer_rows.proofs.Searched.{is_equal}

module _ {R : Type 0} (number : R → ℕ) (row : R) where
  -- the record that stands for another
  abbrev turned : R → R
  turned r = if number r == number row then row else r

  number_by : (b : Bool) (r : R) → (number r == number row) ≡ b → number (if b then row else r) ≡ number r
  number_by true r e = sym (eqb-true (number r) (number row) e)
  number_by false r e = refl

  number_stays : (r : R) → number (turned r) ≡ number r
  number_stays r = number_by (number r == number row) r refl

  found_turned : (k : ℕ) (rows : List R) → row_of number k (map turned rows) ≡ option_map turned (row_of number k rows)
  found_turned k [] = refl
  found_turned k (r ∷ rows) = elim (cases_Bool (number r == k)) [
    | inl here ↦ let there : (number (turned r) == k) ≡ true = ap (λ n. n == k) (number_stays r) ∙ here in rw (there, here) refl
    | inr other ↦ let there : (number (turned r) == k) ≡ false = ap (λ n. n == k) (number_stays r) ∙ other in rw (there, other) (found_turned k rows)
  ]

  record_turned : (rows : List R) (slot : ℕ) → record_in (map turned rows) slot ≡ option_map turned (record_in rows slot)
  record_turned rows slot = elim (cases_Bool (slot == 0)) [
    | inl none ↦ rw (none) refl
    | inr some ↦ rw (some) (slice_get-map turned rows (slot - 1))
  ]

  slot_turned : (rows : List R) (o : Option ℕ) (y : Option R) → option_map (record_in rows) o ≡ Some y → option_map (record_in (map turned rows)) o ≡ Some (option_map turned y)
  slot_turned rows None y h = cc
  slot_turned rows (Some slot) y h = ap Some (record_turned rows slot ∙ ap (option_map turned) (same_Some (record_in rows slot) y h))

  block_turned : (rows : List R) (slots : List ℕ) (at first count : ℕ) → IsBlock number rows slots at first count → IsBlock number (map turned rows) slots at first count
  block_turned rows slots at first count h = λ low lt.
      slot_turned rows (slice_get slots (at + low)) (row_of number (first + low) rows) (h low lt) ∙ ap Some (sym (found_turned (first + low) rows))

  page_turned : (rows : List R) (slots : List ℕ) (first block : ℕ) → IsPage number rows slots first block → IsPage number (map turned rows) slots first block
  page_turned rows slots first block h = record {
    none = λ z k le lt. found_turned k rows ∙ ap (option_map turned) (h.none z k le lt);
    some = λ n. block_turned rows slots _ first 128 (h.some n);
  }

  pages_turned : (rows : List R) (pages slots : List ℕ) → ArePages number rows pages slots → ArePages number (map turned rows) pages slots
  pages_turned rows pages slots h = λ page block at. page_turned rows slots _ block (h page block at)

  same_order : (rows : List R) (i : ℕ) (d : R) → number (get_or rows i d) ≡ number row → nat_cmp (number (get_or rows i d)) (number row) ≡ Equal
  same_order rows i d e = is_equal _ (equal_number (number (get_or rows i d)) (number row) e)

  -- the record at the index of its number is replaced
  pub paged_replaced : (rows : List R) (pages slots : List ℕ) (i : ℕ) → IsPaged number rows pages slots → i < length rows → number (get_or rows i row) ≡ number row → IsPaged number (set rows i row) pages slots
  paged_replaced rows pages slots i paged lt e =
      let same = same_order rows i row e in
      let is : set rows i row ≡ map turned rows = row_replaced nat_cmp nat_cmp_total number None rows i row row paged.rising lt same ∙ number_replaced number row rows in
      record {
        rising = rising_replaced nat_cmp nat_cmp_total number None rows i row row lt same ∙ paged.rising;
        found = subst (λ rs. ArePages number rs pages slots) (sym is) (pages_turned rows pages slots paged.found);
      }

  pub number_put : (rows : List R) (i : ℕ) → numbers_rise number rows ≡ true → i < length rows → number (get_or rows i row) ≡ number row → set rows i row ≡ with_inserted nat_cmp number row rows
  number_put rows i rising lt e = row_put nat_cmp nat_cmp_total number rows i row row rising lt (same_order rows i row e)

-- ---- records that are added or removed

-- no page has an entry where there are no pages
no_pages : {R : Type 0} (number : R → ℕ) (rows : List R) → numbers_rise number rows ≡ true → IsPaged number rows [] []
no_pages number rows rising = record {
  rising = rising;
  found = λ page block at. cc;
}

-- all records from an index on are above a number that the record there hasn't
beyond : {R : Type 0} (number : R → ℕ) (rows : List R) (i k : ℕ) → numbers_rise number rows ≡ true → IsStart number rows k i → (i < length rows → (d : R) → number (get_or rows i d) ≢ k) → (j : ℕ) (d : R) → i ≤ j → j < length rows → k < number (get_or rows j d)
beyond number rows i k rising start other j d ge lt =
    let here : i < length rows = omega (arith, ge, lt) in
    let first = start.rest i d (omega arith) here in
    let differs = other here d in
    let order = never_falls number rows i j d rising ge lt in
    omega (arith, first, differs, order)

pub number_inserted : {R : Type 0} (number : R → ℕ) (row : R) (rows : List R) (i : ℕ) → numbers_rise number rows ≡ true → IsStart number rows (number row) i → (i < length rows → (d : R) → number (get_or rows i d) ≢ number row) → insert rows i row ≡ with_inserted nat_cmp number row rows
number_inserted number row rows i rising start other =
    row_inserted nat_cmp nat_cmp_total number rows i row start.within (λ j d lt. sym (nat_cmp_is _ _ Less (start.below j d lt)))
    (λ j d ge lt. sym (nat_cmp_is _ _ Greater (beyond number rows i (number row) rising start other j d ge lt)))

pub inserted_paged : {R : Type 0} (number : R → ℕ) (row : R) (rows : List R) → numbers_rise number rows ≡ true → IsPaged number (with_inserted nat_cmp number row rows) [] []
inserted_paged number row rows rising = no_pages number _ (inserted_rises nat_cmp nat_cmp_total number row rows rising)

pub none_of_number : {R : Type 0} (number : R → ℕ) (k : ℕ) (rows : List R) (i : ℕ) → numbers_rise number rows ≡ true → IsStart number rows k i → (i < length rows → (d : R) → number (get_or rows i d) ≢ k) → rows ≡ without_key nat_cmp number k rows
none_of_number number k rows i rising start other =
    none_removed nat_cmp nat_cmp_total number rows i k start.within (λ j d lt. sym (nat_cmp_is _ _ Less (start.below j d lt)))
    (λ j d ge lt. sym (nat_cmp_is _ _ Greater (beyond number rows i k rising start other j d ge lt)))

pub number_removed : {R : Type 0} (number : R → ℕ) (k : ℕ) (rows : List R) (i : ℕ) (d : R) → numbers_rise number rows ≡ true → i < length rows → number (get_or rows i d) ≡ k → remove rows i ≡ without_key nat_cmp number k rows
number_removed number k rows i d rising lt e =
    row_removed nat_cmp nat_cmp_total number rows i k d rising lt (is_equal _ (equal_number (number (get_or rows i d)) k e))

pub rest_paged : {R : Type 0} (number : R → ℕ) (k : ℕ) (rows : List R) → numbers_rise number rows ≡ true → IsPaged number (without_key nat_cmp number k rows) [] []
rest_paged number k rows rising = no_pages number _ (rest_rises nat_cmp nat_cmp_total number k rows rising)

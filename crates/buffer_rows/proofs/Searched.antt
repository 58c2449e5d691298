-- What a binary search finds in records whose keys rise.
use Rattle.std.proofs.Common.{◌≡◌, ◌≢◌, ℕ, zero, suc, ◌<◌, true, false, ◌==◌, List, [], ◌∷◌, length, get_or, Option, Some, None, Result, Ok, Err, MatchResult, inl, inr, refl, sym, ◌∙◌, add-one, arith}
use mathlib.Core.Bool.{false≢true}
use Rattle.std.specs.declared.cmp.Ordering.{Ordering}
use Rattle.std.specs.declared.cmp.Ordering.TheVariants.{Less, Equal, Greater}
use Rattle.std.specs.Ordering.{is_lt, is_eq, nat_cmp, ordering_index}
use Rattle.std.specs.Cmp.{IsTotalOrder, alike_right}
use Rattle.std.specs.List.Sorted.{IsSearchInRange, IsBinarySearchResult, IsNonDecreasingBy, IsPartitionPoint}
use Rattle.std.proofs.lemmas.Bool.{cases_lt}
use Rattle.std.proofs.lemmas.Bool.Decides.{nat_tests}
use Rattle.std.proofs.lemmas.List.Sorted.{searchable_from_sorted}
use Rattle.buffer_rows.specs.Keys.{is_rising, row_with, row_of}
use Rattle.buffer_facts.proofs.Truth.{both_true as both_parts}

pub is_less : (o : Ordering) → is_lt o ≡ true → o ≡ Less
is_less Less h = refl
is_less Equal h = absurd (false≢true h)
is_less Greater h = absurd (false≢true h)

pub is_equal : (o : Ordering) → is_eq o ≡ true → o ≡ Equal
is_equal Less h = absurd (false≢true h)
is_equal Equal h = refl
is_equal Greater h = absurd (false≢true h)

not_equal : (o : Ordering) → o ≢ Equal → is_eq o ≡ false
not_equal Less h = refl
not_equal Equal h = absurd (h refl)
not_equal Greater h = refl

not_back : {K : Type 0} (order : K → K → Ordering) → IsTotalOrder order → (x y : K) → order x y ≡ Less → is_lt (order y x) ≡ false
not_back order total x y h = rw (total.antisymm y x, h) refl

pub less_apart : {o : Ordering} → o ≡ Less → o ≡ Equal → ⊥
less_apart a b = cc

greater_apart : {o : Ordering} → o ≡ Greater → o ≡ Equal → ⊥
greater_apart a b = cc

module _ {R K : Type 0} (order : K → K → Ordering) (total : IsTotalOrder order) (key : R → K) where
  -- a key below the rising records is below each of them
  pub below_each : (b : K) (rows : List R) (i : ℕ) (d : R) → is_rising order key (Some b) rows ≡ true → i < length rows → order b (key (get_or rows i d)) ≡ Less
  below_each b [] i d rising h = absurd (omega (arith, h))
  below_each b (r ∷ rows) zero d rising h = is_less _ ((both_parts _ _ rising).0)
  below_each b (r ∷ rows) (suc i) d rising h = total.trans b (key r) _ (is_less _ ((both_parts _ _ rising).0)) (below_each (key r) rows i d ((both_parts _ _ rising).1) (omega (arith, h)))

  row_found : (before : Option K) (rows : List R) (k : K) (i : ℕ) (d : R) → is_rising order key before rows ≡ true → i < length rows → order (key (get_or rows i d)) k ≡ Equal → Some (get_or rows i d) ≡ row_with order key k rows
  row_found before [] k i d rising h e = absurd (omega (arith, h))
  row_found before (r ∷ rows) k zero d rising h e = rw e refl
  row_found before (r ∷ rows) k (suc i) d rising h e =
      let low : i < length rows = omega (arith, h) in
      let rest : is_rising order key (Some (key r)) rows ≡ true = (both_parts _ _ rising).1 in
      let less : order (key r) k ≡ Less = sym (alike_right total _ _ (key r) e) ∙ below_each (key r) rows i d rest low in
      rw less (row_found (Some (key r)) rows k i d rest low e)

  pub row_missing : (rows : List R) (k : K) → ((i : ℕ) (d : R) → i < length rows → order (key (get_or rows i d)) k ≢ Equal) → None ≡ row_with order key k rows
  row_missing [] k none = refl
  row_missing (r ∷ rows) k none =
      let here : is_eq (order (key r) k) ≡ false = not_equal (order (key r) k) (none 0 r (omega arith)) in
      rw here (row_missing rows k (λ i d h. none (suc i) d (omega (arith, h))))

  rising_pair : (before : Option K) (rows : List R) (i : ℕ) (d : R) → is_rising order key before rows ≡ true → suc i < length rows → order (key (get_or rows i d)) (key (get_or rows (suc i) d)) ≡ Less
  rising_pair before [] i d rising h = absurd (omega (arith, h))
  rising_pair before (r ∷ rows) zero d rising h = below_each (key r) rows 0 d ((both_parts _ _ rising).1) (omega (arith, h))
  rising_pair before (r ∷ rows) (suc i) d rising h = rising_pair (Some (key r)) rows i d ((both_parts _ _ rising).1) (omega (arith, h))

  -- the comparisons with a key rise along the records
  pub comparisons_rise : (before : Option K) (rows : List R) (k : K) → is_rising order key before rows ≡ true → IsNonDecreasingBy (λ r. ordering_index (order (key r) k)) rows
  comparisons_rise before rows k rising = searchable_from_sorted total key rows k (λ i d low high. let near : suc i < length rows = omega (arith, high) in rw add-one (not_back order total _ _ (rising_pair before rows i d rising near)))

  -- the record at the index that a search gives, or none, is the record of the key
  pub searched : (before : Option K) (rows : List R) (k : K) (r : Result ℕ ℕ) → is_rising order key before rows ≡ true → IsSearchInRange r (length rows) → IsBinarySearchResult (λ y. order (key y) k) rows r
      → MatchResult r (λ i. (d : R) → Some (get_or rows i d) ≡ row_with order key k rows) (λ i. None ≡ row_with order key k rows)
  searched before rows k (Ok i) rising range equal = λ d. row_found before rows k i d rising range (equal d)
  searched before rows k (Err i) rising range parted = row_missing rows k (none i parted)
    where
      none : (i : ℕ) → (IsNonDecreasingBy (λ y. ordering_index (order (key y) k)) rows → IsPartitionPoint (λ y. order (key y) k ≡ Less) (λ y. order (key y) k ≡ Greater) rows i)
          → (j : ℕ) (d : R) → j < length rows → order (key (get_or rows j d)) k ≢ Equal
      none i parted j d h e =
          let parts = parted (comparisons_rise before rows k rising) in
          elim (cases_lt j i) [
            | inl lt ↦ less_apart (parts.0 j d (omega arith) lt) e
            | inr ge ↦ greater_apart (parts.1 j d ge h) e
          ]

  -- a record of a list whose key is alike is the record of the key
  pub guessed : (rows : List R) (k : K) (i : ℕ) (d : R) → is_rising order key None rows ≡ true → i < length rows → is_eq (order (key (get_or rows i d)) k) ≡ true → Some (get_or rows i d) ≡ row_with order key k rows
  guessed rows k i d rising h e = row_found None rows k i d rising h (is_equal _ e)

pub equal_numbers : (a b : ℕ) → is_eq (nat_cmp a b) ≡ (a == b)
equal_numbers a b = grind (arith, nat_tests)

-- at numbers the record of an equal key is the record of the number
pub row_of_number : {R : Type 0} (key : R → ℕ) (rows : List R) (k : ℕ) → row_with nat_cmp key k rows ≡ row_of key k rows
row_of_number key [] k = refl
row_of_number key (r ∷ rows) k = rw (equal_numbers (key r) k, row_of_number key rows k) refl

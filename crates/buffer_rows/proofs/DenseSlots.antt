-- Records within their first and last number, and their slots.
use Rattle.std.proofs.Common.{◌≡◌, ℕ, suc, ◌<◌, ◌≤◌, ◌+◌, ◌-◌, true, ◌==◌, List, [], ◌∷◌, length, get_or, slice_get, Some, None, refl, ap, ◌∙◌, false, arith}
use Rattle.std.specs.Ordering.{is_eq, nat_cmp}
use Rattle.std.proofs.lemmas.Cmp.{nat_cmp_total}
use Rattle.std.proofs.lemmas.Bool.Decides.{nat_tests}
use Rattle.std.proofs.lemmas.Option.{slice_get_within, get_or_from_slice_get}
use Rattle.buffer_rows.specs.Keys.{numbers_rise, row_of}
use Rattle.buffer_rows.specs.Dense.{AreWithin, IsDense}
use Rattle.buffer_rows.specs.Pages.{IsBlock, record_in}
use Rattle.buffer_rows.proofs.Paged.{below_differs, never_falls, none_above, same_record}
use Rattle.buffer_rows.proofs.Searched.{guessed, row_of_number}

-- rows below a number have no record of it
pub none_below : {R : Type 0} (number : R → ℕ) (k : ℕ) (rows : List R) → ((i : ℕ) (d : R) → i < length rows → number (get_or rows i d) < k) → row_of number k rows ≡ None
none_below number k [] h = refl
none_below number k (r ∷ rows) h =
    let here : (number r == k) ≡ false = below_differs (number r) k (h 0 r (omega arith)) in
    rw here (none_below number k rows (λ i d lt. h (suc i) d (omega (arith, lt))))

-- ---- the first and the last number

pub within_ends : {R : Type 0} (number : R → ℕ) (rows : List R) (x y : R) → numbers_rise number rows ≡ true → slice_get rows 0 ≡ Some x → slice_get rows (length rows - 1) ≡ Some y → AreWithin number rows (number x) (number y)
within_ends number rows x y rising first last = record {
  below = λ k lt. none_above number k rows (λ i d le.
      let least : number (get_or rows 0 d) ≤ number (get_or rows i d) = never_falls number rows 0 i d rising (omega arith) le in
      let is : number (get_or rows 0 d) ≡ number x = ap number (get_or_from_slice_get rows 0 x d first) in
      omega (arith, lt, least, is));
  above = λ k lt. none_below number k rows (λ i d le.
      let most : number (get_or rows i d) ≤ number (get_or rows (length rows - 1) d) = never_falls number rows i (length rows - 1) d rising (omega (arith, le)) (omega (arith, le)) in
      let is : number (get_or rows (length rows - 1) d) ≡ number y = ap number (get_or_from_slice_get rows (length rows - 1) y d last) in
      omega (arith, lt, most, is));
}

empty_within : {R : Type 0} (number : R → ℕ) (first last : ℕ) → AreWithin number [] first last
empty_within number first last = record { below = λ k lt. refl; above = λ k lt. refl }

pub none_first : {R : Type 0} (number : R → ℕ) (rows : List R) (first last : ℕ) → slice_get rows 0 ≡ None → AreWithin number rows first last
none_first number [] first last h = empty_within number first last
none_first number (r ∷ rows) first last h = cc

last_there : {R : Type 0} (r : R) (rows : List R) → slice_get (r ∷ rows) (length rows) ≡ None → ⊥
last_there r [] h = cc
last_there r (s ∷ rows) h = last_there s rows h

pub none_last : {R : Type 0} (number : R → ℕ) (rows : List R) (first last : ℕ) → slice_get rows (length rows - 1) ≡ None → AreWithin number rows first last
none_last number [] first last h = empty_within number first last
none_last number (r ∷ rows) first last h =
    let back : suc (length rows) - 1 ≡ length rows = omega arith in
    absurd (last_there r rows (rw back at h))

-- ---- slots

pub no_slots : {R : Type 0} (number : R → ℕ) (rows : List R) (first : ℕ) → IsBlock number rows [] 0 first 0
no_slots number rows first = λ low lt. absurd (omega (arith, lt))

-- ---- what is found

pub none_below_first : {R : Type 0} (number : R → ℕ) (rows : List R) (slots : List ℕ) (first last k : ℕ) → IsDense number rows slots first last → k < first → row_of number k rows ≡ None
none_below_first number rows slots first last k dense lt = dense.within.below k lt

pub none_above_last : {R : Type 0} (number : R → ℕ) (rows : List R) (slots : List ℕ) (first last k : ℕ) → IsDense number rows slots first last → last < k → row_of number k rows ≡ None
none_above_last number rows slots first last k dense lt = dense.within.above k lt

pub slot_names : {R : Type 0} (number : R → ℕ) (rows : List R) (slots : List ℕ) (first last k slot : ℕ) → IsDense number rows slots first last → first ≤ k → slice_get slots (k - first) ≡ Some slot → record_in rows slot ≡ row_of number k rows
slot_names number rows slots first last k slot dense le at =
    let whole : first + (k - first) ≡ k = omega (arith, le) in
    let from : 0 + (k - first) ≡ k - first = omega arith in
    let here = dense.found (k - first) (slice_get_within slots (k - first) slot at) in
    same_record (record_in rows) (slice_get slots (k - first)) slot (row_of number k rows) at (rw whole at (rw from at here))

pub equal_number : (a b : ℕ) → a ≡ b → is_eq (nat_cmp a b) ≡ true
equal_number a b h = grind (arith, nat_tests)

-- a record whose number is the wanted one is its record
pub guessed_number : {R : Type 0} (number : R → ℕ) (rows : List R) (k i : ℕ) (d : R) → numbers_rise number rows ≡ true → i < length rows → number (get_or rows i d) ≡ k → Some (get_or rows i d) ≡ row_of number k rows
guessed_number number rows k i d rising lt e =
    guessed nat_cmp nat_cmp_total number rows k i d rising lt (equal_number (number (get_or rows i d)) k e) ∙ row_of_number number rows k

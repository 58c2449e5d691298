-- One pass over records in the order of their numbers: where the records of greater numbers begin.
use Rattle.std.proofs.Common.{◌≡◌, ℕ, ◌<◌, ◌≤◌, ◌+◌, true, List, length, get_or, inl, inr, sym, ap, arith}
use Rattle.std.proofs.lemmas.Bool.{cases_lt}
use Rattle.buffer_rows.specs.Keys.{numbers_rise, row_of}
use Rattle.buffer_rows.specs.Pages.{IsStart, record_in}
use Rattle.buffer_rows.proofs.Paged.{never_falls, none_between, slot_read, strictly_rises}
use Rattle.buffer_rows.proofs.DenseSlots.{guessed_number}

-- past the last record begin the records of any greater number
pub start_past_end : {R : Type 0} (number : R → ℕ) (rows : List R) (first last at : ℕ) → IsStart number rows first at → first ≤ last → length rows ≤ at → IsStart number rows (last + 1) at
start_past_end number rows first last at h order le = record {
  within = h.within;
  below = λ i d lt. let under = h.below i d lt in omega (arith, under, order);
  rest = λ i d ge lt. absurd (omega (arith, ge, lt, le));
}

pub start_moved : {R : Type 0} (number : R → ℕ) (rows : List R) (first other at : ℕ) → first ≡ other → IsStart number rows first at → IsStart number rows other at
start_moved number rows first other at e h = rw (sym e) h

-- before a record of a greater number no record is of a number between
pub start_before : {R : Type 0} (number : R → ℕ) (rows : List R) (first last at : ℕ) (x : R) → numbers_rise number rows ≡ true → IsStart number rows first at → first ≤ last → ((d : R) → x ≡ get_or rows at d) → last < number x → IsStart number rows (last + 1) at
start_before number rows first last at x rising h order is over = record {
  within = h.within;
  below = λ i d lt. let under = h.below i d lt in omega (arith, under, order);
  rest = λ i d ge lt.
      let least : number (get_or rows at d) ≤ number (get_or rows i d) = never_falls number rows at i d rising ge lt in
      let here : number x ≡ number (get_or rows at d) = ap number (is d) in
      omega (arith, over, least, here);
}

-- where the records of greater numbers begin too, a number has no record
pub no_record : {R : Type 0} (number : R → ℕ) (rows : List R) (k at : ℕ) → IsStart number rows k at → IsStart number rows (k + 1) at → record_in rows 0 ≡ row_of number k rows
no_record number rows k at from to = sym (none_between number k rows k (k + 1) at (omega arith) (omega arith) from to)

-- the first record of numbers from a number on is that of the number, if its own is no greater
pub record_here : {R : Type 0} (number : R → ℕ) (rows : List R) (k at : ℕ) → numbers_rise number rows ≡ true → IsStart number rows k at → at < length rows → ((d : R) → number (get_or rows at d) ≤ k)
    → record_in rows (at + 1) ≡ row_of number k rows
record_here number rows k at rising h lt least =
    slot_read rows at (row_of number k rows) lt (λ d. guessed_number number rows k at d rising lt (let low = h.rest at d (omega arith) lt in let high = least d in omega (arith, low, high)))

-- after it begin the records of greater numbers
pub start_passed : {R : Type 0} (number : R → ℕ) (rows : List R) (k at : ℕ) → numbers_rise number rows ≡ true → IsStart number rows k at → at < length rows → ((d : R) → number (get_or rows at d) ≤ k)
    → IsStart number rows (k + 1) (at + 1)
start_passed number rows k at rising h lt least = record {
  within = omega (arith, lt);
  below = λ i d l.
      elim (cases_lt i at) [
        | inl before ↦ let under = h.below i d before in omega (arith, under)
        | inr from ↦
            let same : i ≡ at = omega (arith, l, from) in
            let here : number (get_or rows i d) ≡ number (get_or rows at d) = ap (λ n. number (get_or rows n d)) same in
            let high = least d in
            omega (arith, here, high)
      ];
  rest = λ i d ge l.
      let low = h.rest at d (omega arith) lt in
      let later : number (get_or rows at d) < number (get_or rows i d) = strictly_rises number rows at i d rising (omega (arith, ge)) l in
      omega (arith, low, later);
}

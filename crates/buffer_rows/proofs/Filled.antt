-- Slots that are set one record after another.
use Rattle.std.proofs.Common.{◌≡◌, ◌≢◌, ℕ, zero, suc, ◌<◌, ◌≤◌, ◌+◌, ◌==◌, true, false, List, [], ◌∷◌, ◌++◌, length, take, get_or, set, slice_get, replicate, Option, Some, None, option_map, inl, inr, refl, sym, ap, ◌∙◌, arith}
use Rattle.std.specs.Option.{option_or}
use Rattle.std.proofs.lemmas.Bool.{cases_eq}
use Rattle.std.proofs.lemmas.Bool.Decides.{nat_tests}
use Rattle.std.proofs.lemmas.List.Folds.{find-append}
use Rattle.std.proofs.lemmas.List.{get_or-take, length-take-le, take_all, take_more}
use Rattle.buffer_rows.specs.Keys.{numbers_rise, row_of}
use Rattle.buffer_rows.specs.Pages.{IsBlock, record_in}
use Rattle.buffer_rows.proofs.Paged.{slot_read, strictly_rises}
use Rattle.buffer_rows.proofs.DenseSlots.{none_below}

-- ---- a list in which an element is set

pub set_same : (xs : List ℕ) (i v : ℕ) → i < length xs → slice_get (set xs i v) i ≡ Some v
set_same [] i v lt = absurd (omega (arith, lt))
set_same (x ∷ xs) zero v lt = refl
set_same (x ∷ xs) (suc i) v lt = set_same xs i v (omega (arith, lt))

pub set_other : (xs : List ℕ) (i j v : ℕ) → j ≢ i → slice_get (set xs i v) j ≡ slice_get xs j
set_other [] i j v other = refl
set_other (x ∷ xs) zero zero v other = absurd (other refl)
set_other (x ∷ xs) zero (suc j) v other = refl
set_other (x ∷ xs) (suc i) zero v other = refl
set_other (x ∷ xs) (suc i) (suc j) v other = set_other xs i j v (λ e. other (ap suc e))

zero_there : (n i : ℕ) → i < n → slice_get {X = ℕ} (replicate n 0) i ≡ Some 0
zero_there zero i lt = absurd (omega (arith, lt))
zero_there (suc n) zero lt = refl
zero_there (suc n) (suc i) lt = zero_there n i (omega (arith, lt))

-- within a list the default doesn't matter
in_range : {X : Type 0} (xs : List X) (j : ℕ) (d e : X) → j < length xs → get_or xs j d ≡ get_or xs j e
in_range [] j d e l = absurd (omega (arith, l))
in_range (y ∷ xs) zero d e l = refl
in_range (y ∷ xs) (suc j) d e l = in_range xs j d e (omega (arith, l))

-- ---- the record of a number, with one record more

same_test : (a b : ℕ) → a ≡ b → (a == b) ≡ true
same_test a b e = grind (arith, nat_tests, e)

other_test : (a b : ℕ) → a ≢ b → (a == b) ≡ false
other_test a b n = grind (arith, nat_tests, n)

or_none : {R : Type 0} (o : Option R) → option_or o None ≡ o
or_none (Some x) = refl
or_none None = refl

-- one record more
one_more : {R : Type 0} (number : R → ℕ) (rows : List R) (i k : ℕ) (x : R) → i < length rows → x ≡ get_or rows i x → row_of number k (take (i + 1) rows) ≡ option_or (row_of number k (take i rows)) (row_of number k (x ∷ []))
one_more number rows i k x lt is =
    ap (row_of number k) (take_more rows i x lt ∙ ap (λ y. take i rows ++ y ∷ []) (sym is)) ∙ find-append (λ r. number r == k) (take i rows) (x ∷ [])

-- of another number
other_more : {R : Type 0} (number : R → ℕ) (rows : List R) (i k : ℕ) (x : R) → i < length rows → x ≡ get_or rows i x → number x ≢ k → row_of number k (take (i + 1) rows) ≡ row_of number k (take i rows)
other_more number rows i k x lt is other =
    let none : row_of number k (x ∷ []) ≡ None = rw (other_test (number x) k other) refl in
    one_more number rows i k x lt is ∙ ap (option_or (row_of number k (take i rows))) none ∙ or_none (row_of number k (take i rows))

-- of this number
same_more : {R : Type 0} (number : R → ℕ) (rows : List R) (i k : ℕ) (x : R) → numbers_rise number rows ≡ true → i < length rows → x ≡ get_or rows i x → number x ≡ k → row_of number k (take (i + 1) rows) ≡ Some x
same_more number rows i k x rising lt is same =
    let some : row_of number k (x ∷ []) ≡ Some x = rw (same_test (number x) k same) refl in
    let size : length (take i rows) ≡ i = length-take-le i rows (omega (arith, lt)) in
    let none : row_of number k (take i rows) ≡ None = none_below number k (take i rows) (λ j d less.
    let before : j < i = omega (arith, less, size) in
    let there : number (get_or (take i rows) j d) ≡ number (get_or rows j d) = ap number (get_or-take i rows j d before) in
    let here : number (get_or rows i d) ≡ number x = ap number (in_range rows i d x lt ∙ sym is) in
    let rises : number (get_or rows j d) < number (get_or rows i d) = strictly_rises number rows j i d rising before lt in
    omega (arith, there, here, rises, same)) in
    one_more number rows i k x lt is ∙ ap (λ o. option_or o (row_of number k (x ∷ []))) none ∙ some

-- ---- the slots

-- the slots of the numbers from a first one on are those of the first n records
abbrev pub AreFilled : {R : Type 0} → (R → ℕ) → List R → List ℕ → ℕ → ℕ → Type 0
AreFilled number rows slots first n = (low : ℕ) → low < length slots → option_map (record_in rows) (slice_get slots low) ≡ Some (row_of number (first + low) (take n rows))

pub none_filled : {R : Type 0} (number : R → ℕ) (rows : List R) (slots : List ℕ) (first : ℕ) → slots ≡ replicate (length slots) 0 → AreFilled number rows slots first 0
none_filled number rows slots first e low lt =
    ap (λ xs. option_map (record_in rows) (slice_get xs low)) e ∙ ap (option_map (record_in rows)) (zero_there (length slots) low lt)

-- a record below the first number has no slot
pub below_filled : {R : Type 0} (number : R → ℕ) (rows : List R) (slots : List ℕ) (first i : ℕ) (x : R) → i < length rows → x ≡ get_or rows i x → number x < first → AreFilled number rows slots first i → AreFilled number rows slots first (i + 1)
below_filled number rows slots first i x lt is under before low less =
    before low less ∙ ap Some (sym (other_more number rows i (first + low) x lt is (λ e. absurd (omega (arith, e, under)))))

pub one_filled : {R : Type 0} (number : R → ℕ) (rows : List R) (old new : List ℕ) (first i at : ℕ) (x : R) → numbers_rise number rows ≡ true → i < length rows → x ≡ get_or rows i x → number x ≡ first + at → length new ≡ length old → (at < length old → slice_get new at ≡ Some (i + 1))
    → ((j : ℕ) → j ≢ at → slice_get new j ≡ slice_get old j) → AreFilled number rows old first i → AreFilled number rows new first (i + 1)
one_filled number rows old new first i at x rising lt is named size there others before low less = elim (cases_eq low at) [
  | inl same ↦
      let inside : at < length old = omega (arith, less, size, same) in
      let slot : slice_get new low ≡ Some (i + 1) = ap (slice_get new) same ∙ there inside in
      let number_is : number x ≡ first + low = omega (arith, named, same) in
      let read : record_in rows (i + 1) ≡ Some x = slot_read rows i (Some x) lt (λ d. ap Some (in_range rows i d x lt ∙ sym is)) in
      ap (option_map (record_in rows)) slot ∙ ap Some (read ∙ sym (same_more number rows i (first + low) x rising lt is number_is))
  | inr other ↦
      let differs : number x ≢ first + low = λ e. other (omega (arith, e, named)) in
      ap (option_map (record_in rows)) (others low other) ∙ before low (omega (arith, less, size)) ∙ ap Some (sym (other_more number rows i (first + low) x lt is differs))
]

pub all_filled : {R : Type 0} (number : R → ℕ) (rows : List R) (slots : List ℕ) (first n : ℕ) → length rows ≤ n → AreFilled number rows slots first n → IsBlock number rows slots 0 first (length slots)
all_filled number rows slots first n le filled low lt =
    let from : 0 + low ≡ low = omega arith in
    ap (λ j. option_map (record_in rows) (slice_get slots j)) from ∙ filled low lt ∙ ap (λ rs. Some (row_of number (first + low) rs)) (take_all n rows le)

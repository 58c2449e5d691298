-- The slots of a page name the record of each number of the page.
use Rattle.std.proofs.Common.{◌≡◌, ◌≢◌, inl, inr, ℕ, zero, suc, ◌<◌, ◌≤◌, ◌+◌, ◌-◌, ◌*◌, ◌/◌, ◌%◌, Bool, true, false, ◌==◌, nat_lt, List, [], ◌∷◌, ◌++◌, length, take, drop, get_or, slice_get, Option, Some, None, option_map, refl, sym, ap, ◌∙◌, arith}
use Rattle.std.specs.Option.{option_or}
use Rattle.std.specs.Ordering.{is_lt, nat_cmp}
use Rattle.std.proofs.lemmas.Bool.{cases_lt, and_parts}
use Rattle.std.proofs.lemmas.Bool.Decides.{nat_tests}
use Rattle.std.proofs.lemmas.List.{take-append-drop}
use Rattle.std.proofs.lemmas.List.Folds.{find-append}
use Rattle.std.proofs.lemmas.Option.{slice_get_within, slice_get-get_or}
use Rattle.std.specs.List.Sorted.{IsPartitionedBy, IsPartitionPoint}
use Rattle.buffer_rows.specs.Keys.{is_above, is_rising, numbers_rise, row_of}
use Rattle.buffer_rows.specs.Pages.{ArePages, Extends, IsBlock, IsPage, IsPaged, IsStart, record_in}
use Rattle.buffer_facts.proofs.Numbers.{less_by_order as less_of}

lower : (a b first : ℕ) → a ≤ b → nat_lt b first ≡ true → nat_lt a first ≡ true
lower a b first le h = grind (arith, nat_tests)

pub below_differs : (a k : ℕ) → a < k → (a == k) ≡ false
below_differs a k h = grind (arith, nat_tests)

pub above_differs : (a k : ℕ) → k < a → (a == k) ≡ false
above_differs a k h = grind (arith, nat_tests)

module _ {R : Type 0} (number : R → ℕ) where
  -- rows below a number have no record of it
  none_before : (k : ℕ) (rows : List R) (s : ℕ) → ((i : ℕ) (d : R) → i < s → number (get_or rows i d) < k) → row_of number k (take s rows) ≡ None
  none_before k [] zero h = refl
  none_before k [] (suc s) h = refl
  none_before k (r ∷ rows) zero h = refl
  none_before k (r ∷ rows) (suc s) h =
      let here : (number r == k) ≡ false = below_differs (number r) k (h 0 r (omega arith)) in
      rw here (none_before k rows s (λ i d lt. h (suc i) d (omega (arith, lt))))

  -- nor have rows above it
  pub none_above : (k : ℕ) (rows : List R) → ((i : ℕ) (d : R) → i < length rows → k < number (get_or rows i d)) → row_of number k rows ≡ None
  none_above k [] h = refl
  none_above k (r ∷ rows) h =
      let here : (number r == k) ≡ false = above_differs (number r) k (h 0 r (omega arith)) in
      rw here (none_above k rows (λ i d lt. h (suc i) d (omega (arith, lt))))

  none_after : (k : ℕ) (rows : List R) (e : ℕ) → ((i : ℕ) (d : R) → e ≤ i → i < length rows → k < number (get_or rows i d)) → row_of number k (drop e rows) ≡ None
  none_after k rows zero h = none_above k rows (λ i d lt. h i d (omega arith) lt)
  none_after k [] (suc e) h = refl
  none_after k (r ∷ rows) (suc e) h = none_after k rows e (λ i d le lt. h (suc i) d (omega (arith, le)) (omega (arith, lt)))

  -- a number has no record where the records from it on begin where those from a greater number on begin
  pub none_between : (k : ℕ) (rows : List R) (low high s : ℕ) → low ≤ k → k < high → IsStart number rows low s → IsStart number rows high s → row_of number k rows ≡ None
  none_between k rows low high s le lt from to =
      let before : row_of number k (take s rows) ≡ None = none_before k rows s (λ i d l. let under = from.below i d l in omega (arith, under, le)) in
      let after : row_of number k (drop s rows) ≡ None = none_after k rows s (λ i d l m. let over = to.rest i d l m in omega (arith, over, lt)) in
      let p : R → Bool = λ r. number r == k in
      ap (λ xs. row_of number k xs) (sym (take-append-drop s rows)) ∙ find-append p (take s rows) (drop s rows)
      ∙ ap (λ o. option_or o (row_of number k (drop s rows))) before ∙ after

  -- ---- rows that rise, in parts

  rises_alone : (before : Option ℕ) (rows : List R) → is_rising nat_cmp number before rows ≡ true → numbers_rise number rows ≡ true
  rises_alone before [] h = refl
  rises_alone before (r ∷ rows) h = (and_parts (is_above nat_cmp before (number r)) (is_rising nat_cmp number (Some (number r)) rows) h).1

below_each : {R : Type 0} (number : R → ℕ) (b : ℕ) (rows : List R) (i : ℕ) (d : R) → is_rising nat_cmp number (Some b) rows ≡ true → i < length rows → b < number (get_or rows i d)
below_each number b [] i d h lt = absurd (omega (arith, lt))
below_each number b (r ∷ rows) zero d h lt = less_of b (number r) (and_parts (is_lt (nat_cmp b (number r))) (is_rising nat_cmp number (Some (number r)) rows) h).0
below_each number b (r ∷ rows) (suc i) d h lt =
    let parts = and_parts (is_lt (nat_cmp b (number r))) (is_rising nat_cmp number (Some (number r)) rows) h in
    let first : b < number r = less_of b (number r) parts.0 in
    let later : number r < number (get_or rows i d) = below_each number (number r) rows i d parts.1 (omega (arith, lt)) in
    omega (arith, first, later)

-- the numbers never fall
pub never_falls : {R : Type 0} (number : R → ℕ) (rows : List R) (i j : ℕ) (d : R) → numbers_rise number rows ≡ true → i ≤ j → j < length rows → number (get_or rows i d) ≤ number (get_or rows j d)
never_falls number [] i j d h le lt = absurd (omega (arith, lt))
never_falls number (r ∷ rows) zero zero d h le lt = omega arith
never_falls number (r ∷ rows) zero (suc j) d h le lt =
    let later : number r < number (get_or rows j d) = below_each number (number r) rows j d h (omega (arith, lt)) in
    omega (arith, later)
never_falls number (r ∷ rows) (suc i) zero d h le lt = absurd (omega (arith, le))
never_falls number (r ∷ rows) (suc i) (suc j) d h le lt = never_falls number rows i j d (rises_alone number (Some (number r)) rows h) (omega (arith, le)) (omega (arith, lt))

-- and rise strictly
pub strictly_rises : {R : Type 0} (number : R → ℕ) (rows : List R) (i j : ℕ) (d : R) → numbers_rise number rows ≡ true → i < j → j < length rows → number (get_or rows i d) < number (get_or rows j d)
strictly_rises number [] i j d h below lt = absurd (omega (arith, lt))
strictly_rises number (r ∷ rows) zero zero d h below lt = absurd (omega (arith, below))
strictly_rises number (r ∷ rows) zero (suc j) d h below lt = below_each number (number r) rows j d h (omega (arith, lt))
strictly_rises number (r ∷ rows) (suc i) zero d h below lt = absurd (omega (arith, below))
strictly_rises number (r ∷ rows) (suc i) (suc j) d h below lt = strictly_rises number rows i j d (rises_alone number (Some (number r)) rows h) (omega (arith, below)) (omega (arith, lt))

-- a test by a number parts the rows
pub rows_are_partitioned : {R : Type 0} (number : R → ℕ) (rows : List R) (first : ℕ) → numbers_rise number rows ≡ true → IsPartitionedBy (λ r. nat_lt (number r) first) rows
rows_are_partitioned number rows first h = λ i j d le lt e. let order = never_falls number rows i j d h le lt in lower (number (get_or rows i d)) (number (get_or rows j d)) first order e

pub at_least : (a b : ℕ) → nat_lt a b ≡ false → b ≤ a
at_least a b h = grind (arith, nat_tests)

pub under : (a b : ℕ) → nat_lt a b ≡ true → a < b
under a b h = grind (arith, nat_tests)

pub start_at : {R : Type 0} (number : R → ℕ) (rows : List R) (first start : ℕ) → start ≤ length rows
    → IsPartitionPoint (λ r. nat_lt (number r) first ≡ true) (λ r. nat_lt (number r) first ≡ false) rows start → IsStart number rows first start
start_at number rows first start le point = record {
  within = le;
  below = λ i d lt. under (number (get_or rows i d)) first (point.0 i d (omega arith) lt);
  rest = λ i d ge lt. at_least (number (get_or rows i d)) first (point.1 i d ge lt);
}

-- ---- slots

-- one more slot keeps those before it
pub one_more : (old : List ℕ) (x : ℕ) → Extends old (old ++ x ∷ [])
one_more [] x i y h = cc
one_more (z ∷ zs) x zero y h = h
one_more (z ∷ zs) x (suc i) y h = one_more zs x i y h

last_one : (old : List ℕ) (x : ℕ) → slice_get (old ++ x ∷ []) (length old) ≡ Some x
last_one [] x = refl
last_one (z ∷ zs) x = last_one zs x

pub extends_on : (a b c : List ℕ) → Extends a b → Extends b c → Extends a c
extends_on a b c p q = λ i x h. q i x (p i x h)

pub itself : (a : List ℕ) → Extends a a
itself a = λ i x h. h

mapped_on : {R : Type 0} (f : ℕ → Option R) (old new : List ℕ) (i : ℕ) (o : Option ℕ) (y : Option R) → Extends old new → slice_get old i ≡ o → option_map f o ≡ Some y → option_map f (slice_get new i) ≡ Some y
mapped_on f old new i None y more e h = cc
mapped_on f old new i (Some x) y more e h = rw (more i x e) h

pub block_stays : {R : Type 0} (number : R → ℕ) (rows : List R) (old new : List ℕ) (at first count : ℕ) → Extends old new → IsBlock number rows old at first count → IsBlock number rows new at first count
block_stays number rows old new at first count more h = λ low lt. mapped_on (record_in rows) old new (at + low) (slice_get old (at + low)) _ more refl (h low lt)

pub block_grows : {R : Type 0} (number : R → ℕ) (rows : List R) (slots : List ℕ) (at first count slot : ℕ) → length slots ≡ at + count → record_in rows slot ≡ row_of number (first + count) rows
    → IsBlock number rows slots at first count → IsBlock number rows (slots ++ slot ∷ []) at first (count + 1)
block_grows number rows slots at first count slot e is h = λ low lt.
    elim (cases_lt low count) [
      | inl below ↦ block_stays number rows slots (slots ++ slot ∷ []) at first count (one_more slots slot) h low below
      | inr from ↦
          let same : low ≡ count = omega (arith, lt, from) in
          let here : slice_get (slots ++ slot ∷ []) (at + low) ≡ Some slot = rw same (rw (sym e) (last_one slots slot)) in
          rw here (ap (λ o. Some o) (rw same is))
    ]

pub empty_page : {R : Type 0} (number : R → ℕ) (rows : List R) (slots : List ℕ) (first start : ℕ) {end : ℕ} → end ≡ first + 128 → IsStart number rows first start → IsStart number rows end start → IsPage number rows slots first 0
empty_page number rows slots first start {end} is from to = record {
  none = λ z k le lt. none_between number k rows first end start le (omega (arith, lt, is)) from to;
  some = λ n. absurd (n refl);
}

pub full_page : {R : Type 0} (number : R → ℕ) (rows : List R) (slots : List ℕ) (first at block : ℕ) → block ≢ 0 → (block - 1) * 128 ≡ at → IsBlock number rows slots at first 128 → IsPage number rows slots first block
full_page number rows slots first at block n e h = record {
  none = λ z. absurd (n z);
  some = λ _. rw e h;
}

page_stays : {R : Type 0} (number : R → ℕ) (rows : List R) (old new : List ℕ) (first block : ℕ) → Extends old new → IsPage number rows old first block → IsPage number rows new first block
page_stays number rows old new first block more h = record {
  none = h.none;
  some = λ n. block_stays number rows old new ((block - 1) * 128) first 128 more (h.some n);
}

pub was_or_is : (xs : List ℕ) (x i y : ℕ) → slice_get (xs ++ x ∷ []) i ≡ Some y → i < length xs → slice_get xs i ≡ Some y
was_or_is [] x i y h lt = absurd (omega (arith, lt))
was_or_is (z ∷ zs) x zero y h lt = h
was_or_is (z ∷ zs) x (suc i) y h lt = was_or_is zs x i y h (omega (arith, lt))

length_one_more : (xs : List ℕ) (x : ℕ) → length (xs ++ x ∷ []) ≡ length xs + 1
length_one_more [] x = refl
length_one_more (z ∷ zs) x = let rest = length_one_more zs x in omega (arith, rest)

-- the pages so far, and one more
pub pages_grow : {R : Type 0} (number : R → ℕ) (rows : List R) (pages old new : List ℕ) (page block : ℕ) → length pages ≡ page → Extends old new → IsPage number rows new (page * 128) block
    → ArePages number rows pages old → ArePages number rows (pages ++ block ∷ []) new
pages_grow number rows pages old new page block e more here h = λ p b at.
    elim (cases_lt p (length pages)) [
      | inl below ↦ page_stays number rows old new (p * 128) b more (h p b (was_or_is pages block p b at below))
      | inr from ↦
          let within = slice_get_within (pages ++ block ∷ []) p b at in
          let size = length_one_more pages block in
          let same : p ≡ length pages = omega (arith, from, within, size) in
          let last : slice_get (pages ++ block ∷ []) p ≡ Some block = rw same (last_one pages block) in
          let value : b ≡ block = cc in
          rw value (rw same (rw e here))
    ]

-- ---- what is found

pub none_on_page : {R : Type 0} (number : R → ℕ) (rows : List R) (pages slots : List ℕ) (k block : ℕ) → IsPaged number rows pages slots → slice_get pages (k / 128) ≡ Some block → block ≡ 0 → row_of number k rows ≡ None
none_on_page number rows pages slots k block paged at z = (paged.found (k / 128) block at).none z k (omega arith) (omega arith)

pub same_record : {R : Type 0} (f : ℕ → Option R) (o : Option ℕ) (slot : ℕ) (y : Option R) → o ≡ Some slot → option_map f o ≡ Some y → f slot ≡ y
same_record f None slot y e h = cc
same_record f (Some x) slot y e h = let same : x ≡ slot = cc in let found : f x ≡ y = cc in rw (sym same) found

pub slot_names : {R : Type 0} (number : R → ℕ) (rows : List R) (pages slots : List ℕ) (k block slot : ℕ) → IsPaged number rows pages slots → slice_get pages (k / 128) ≡ Some block → block ≢ 0
    → slice_get slots ((block - 1) * 128 + k % 128) ≡ Some slot → record_in rows slot ≡ row_of number k rows
slot_names number rows pages slots k block slot paged at n s =
    let low : k % 128 < 128 = omega arith in
    let whole : k / 128 * 128 + k % 128 ≡ k = omega arith in
    let here = (paged.found (k / 128) block at).some n (k % 128) low in
    same_record (record_in rows) (slice_get slots ((block - 1) * 128 + k % 128)) slot (row_of number k rows) s (rw whole at here)

-- the slot of a record at an index
pub slot_read : {R : Type 0} (rows : List R) (i : ℕ) (y : Option R) → i < length rows → ((d : R) → Some (get_or rows i d) ≡ y) → record_in rows (i + 1) ≡ y
slot_read [] i y lt h = absurd (omega (arith, lt))
slot_read (r ∷ rows) i y lt h =
    let some : (i + 1 == 0) ≡ false = grind (arith, nat_tests) in
    let back : i + 1 - 1 ≡ i = omega arith in
    rw some (rw back (slice_get-get_or (r ∷ rows) i r lt ∙ h r))

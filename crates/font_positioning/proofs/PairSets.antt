-- Pairs of glyphs, one record at a time.
use Rattle.std.proofs.Common.{◌≡◌, ℕ, zero, suc, ◌+◌, ◌-◌, ◌<◌, ◌≤◌, ◌&&◌, Bool, true, false, nat_le, pos, List, [], ◌∷◌, ◌++◌, length, get_or, max, None, Result, Ok, Err, refl, ap, sym, ◌∙◌, arith}
use Rattle.std.specs.List.Sorted.{IsNonDecreasingBy, IsStableByKey, IsPermutation}
use Rattle.std.specs.Ordering.{nat_cmp}
use Rattle.std.proofs.Math.Bool.{and-true}
use Rattle.std.proofs.lemmas.Bool.{and_parts}
use Rattle.std.proofs.lemmas.Bool.Decides.{nat_tests}
use Rattle.std.proofs.lemmas.List.Sorted.{IsPermutation-refl}
use Rattle.font_bytes.specs.declared.fault.TableFault.{TableFault}
use Rattle.font_bytes.specs.Records.{records}
use Rattle.buffer_rows.proofs.StableSort.{stable_sort_is}
use Rattle.font_common.specs.Offsets.{after}
use Rattle.font_records.proofs.Turns.{rest_more, rest_end}
use Rattle.font_records.specs.Covered.{rows_if}
use Rattle.font_records.proofs.Covered.{rows_from, row_done, same_read}
use Rattle.layout_tables.specs.declared.value.ValueRecord.{ValueRecord}
use Rattle.layout_tables.specs.declared.pair.PairRow.{PairRow}
use Rattle.font_positioning.specs.Pairs.{by_second, seconds_never_fall}
use Rattle.buffer_facts.proofs.Numbers.{at_most_by_test as le_of}

-- ---- order

-- second glyphs that never fall from a least one on aren't below it
least_at : (least : ℕ) (rows : List PairRow) (j : ℕ) (d : PairRow) → seconds_never_fall least rows ≡ true → j < length rows → least ≤ (get_or rows j d).second
least_at least [] j d h lt = absurd (omega (arith, lt))
least_at least (r ∷ rows) zero d h lt = le_of least r.second (and_parts (nat_le least r.second) (seconds_never_fall r.second rows) h).0
least_at least (r ∷ rows) (suc j) d h lt =
    let parts = and_parts (nat_le least r.second) (seconds_never_fall r.second rows) h in
    let low = le_of least r.second parts.0 in
    let high = least_at r.second rows j d parts.1 (omega (arith, lt)) in
    omega (arith, low, high)

never_fall : (least : ℕ) (rows : List PairRow) (i j : ℕ) (d : PairRow) → seconds_never_fall least rows ≡ true → i ≤ j → j < length rows → (get_or rows i d).second ≤ (get_or rows j d).second
never_fall least [] i j d h le lt = absurd (omega (arith, lt))
never_fall least (r ∷ rows) zero zero d h le lt = omega arith
never_fall least (r ∷ rows) zero (suc j) d h le lt = least_at r.second rows j d (and_parts (nat_le least r.second) (seconds_never_fall r.second rows) h).1 (omega (arith, lt))
never_fall least (r ∷ rows) (suc i) zero d h le lt = absurd (omega (arith, le))
never_fall least (r ∷ rows) (suc i) (suc j) d h le lt =
    never_fall r.second rows i j d (and_parts (nat_le least r.second) (seconds_never_fall r.second rows) h).1 (omega (arith, le)) (omega (arith, lt))

-- a row with a second glyph
some_row : ℕ → PairRow
some_row second =
    let none : ValueRecord = record { x_placement = pos 0; y_placement = pos 0; x_advance = pos 0; y_advance = pos 0 } in
    record { first = 0; second = second; values = record { first = none; second = None } }

second_of : (second : ℕ) → (some_row second).second ≡ second
unfolding some_row
second_of second = refl

-- sorted rows are those in the order of their second glyphs
pub sorted_by_second : (xs ys : List PairRow) → IsNonDecreasingBy (λ r. r.second) ys → IsStableByKey (λ r. r.second) nat_cmp xs ys → IsPermutation xs ys → ys ≡ by_second xs
sorted_by_second xs ys sorted stable moved = stable_sort_is (λ (r : PairRow). r.second) some_row second_of xs ys sorted stable moved

-- rows whose second glyphs never fall are in their order
pub in_order_same : (rows : List PairRow) → seconds_never_fall 0 rows ≡ true → by_second rows ≡ rows
in_order_same rows h = sym (sorted_by_second rows rows (λ i j d le lt. never_fall 0 rows i j d h le lt) (λ x. refl) (IsPermutation-refl rows))

regroup : (f a b : Bool) → ((f && a) && b) ≡ (f && (a && b))
regroup true a b = refl
regroup false a b = refl

-- one more record is in order, or not
pub order_step : (read : ℕ → PairRow) (width at count index least : ℕ) (flag b : Bool) (r : PairRow) → index < count → r ≡ read at → (flag && seconds_never_fall least (records read width at (count - index))) ≡ b
    → ((flag && nat_le least r.second) && seconds_never_fall r.second (records read width (at + width) (count - (index + 1)))) ≡ b
order_step read width at count index least flag b r inside is h =
    let next = records read width (at + width) (count - (index + 1)) in
    let more : records read width at (count - index) ≡ r ∷ next = rw is (rest_more read width at count index inside) in
    regroup flag (nat_le least r.second) (seconds_never_fall r.second next) ∙ (sym (ap (λ rs. flag && seconds_never_fall least rs) more) ∙ h)

-- no record is left
pub order_end : (read : ℕ → PairRow) (width at count index least : ℕ) (flag b : Bool) → count ≤ index → (flag && seconds_never_fall least (records read width at (count - index))) ≡ b → flag ≡ b
order_end read width at count index least flag b past h = sym (and-true flag) ∙ (sym (ap (λ rs. flag && seconds_never_fall least rs) (rest_end read width at count index past)) ∙ h)

-- ---- sets of a first glyph

-- what was appended was read
after_read : {A : Type 0} (done new : List A) (read : Result (List A × ℕ) TableFault) (left : ℕ) → after done read ≡ Ok (new, left) → (more : List A) × ((read ≡ Ok (more, left)) × (done ++ more ≡ new))
after_read done new (Ok r) left h = let same = same_read (done ++ r.0) new r.1 left h in (r.0, (ap (λ n. Ok (r.0, n)) same.1, same.0))
after_read done new (Err e) left h = cc

-- rows of a first glyph are appended
pub set_done : (row : ℕ → ℕ → ℕ → Result (List PairRow × ℕ) TableFault) (done new : List PairRow) (room left least g o : ℕ) (gs os : List ℕ) → after done (rows_if row least room o g) ≡ Ok (new, left)
    → rows_from row done room least (g ∷ gs) (o ∷ os) ≡ rows_from row new left (max least (g + 1)) gs os
set_done row done new room left least g o gs os h =
    let found = after_read done new (rows_if row least room o g) left h in
    rw (← found.1.1) (row_done row done room left least g o gs os found.0 found.1.0)

-- Values that are read in turn, one at a time.
use Rattle.std.proofs.Common.{◌≡◌, ℕ, zero, suc, ◌+◌, ◌-◌, ◌*◌, ◌<◌, ◌≤◌, ◌≢◌, List, [], ◌∷◌, ◌++◌, Option, Result, Ok, Err, refl, append_assoc, arith}
use Rattle.std.specs.Option.{option_to_list}
use Rattle.std.proofs.lemmas.List.{append-nil}
use Rattle.font_bytes.specs.declared.fault.TableFault.{TableFault}
use Rattle.font_bytes.specs.Records.{records}
use Rattle.font_bytes.proofs.Recorded.{records_step, records_none}
use Rattle.font_common.specs.Offsets.{after}
use Rattle.font_common.proofs.Tables.{after_after}
use Rattle.font_records.specs.Turns.{in_turn, if_any}

-- one more place is read
pub turn_done : {X A : Type 0} (read : ℕ → X → Result (List A × ℕ) TableFault) (done : List A) (room left : ℕ) (x : X) (xs : List X) (more : List A) → read room x ≡ Ok (more, left)
    → after done (in_turn read room (x ∷ xs)) ≡ after (done ++ more) (in_turn read left xs)
turn_done read done room left x xs more h = rw h (after_after done more (in_turn read left xs))

-- a place is refused
pub turn_refused : {X A : Type 0} (read : ℕ → X → Result (List A × ℕ) TableFault) (done : List A) (room : ℕ) (x : X) (xs : List X) (e : TableFault) → read room x ≡ Err e
    → after done (in_turn read room (x ∷ xs)) ≡ Err e
turn_refused read done room x xs e h = rw h refl

-- a value is read, or none
pub any_done : {A : Type 0} (read : Result (Option A × ℕ) TableFault) (value : Option A) (left : ℕ) → read ≡ Ok (value, left) → if_any read ≡ Ok (option_to_list value, left)
any_done read value left h = rw h refl

-- it is refused
pub any_refused : {A : Type 0} (read : Result (Option A × ℕ) TableFault) (e : TableFault) → read ≡ Err e → if_any read ≡ Err e
any_refused read e h = rw h refl

-- ---- records of a width

-- the record at an offset, and those after it
pub rest_more : {R : Type 0} (read : ℕ → R) (width at count index : ℕ) → index < count
    → records read width at (count - index) ≡ read at ∷ records read width (at + width) (count - (index + 1))
rest_more read width at count index inside =
    let some : count - index ≢ 0 = omega arith in
    let left : count - index - 1 ≡ count - (index + 1) = omega arith in
    let e : records read width at (count - index) ≡ read at ∷ records read width (at + width) (count - index - 1) = records_step read width at (count - index) some in
    rw left at e

-- no record is left
pub rest_end : {R : Type 0} (read : ℕ → R) (width at count index : ℕ) → count ≤ index → records read width at (count - index) ≡ []
rest_end read width at count index past = records_none read width at (count - index) (omega arith)

-- one more record is done
pub rest_done : {R : Type 0} (read : ℕ → R) (width at count index : ℕ) (done all : List R) (x : R) → index < count → x ≡ read at → done ++ records read width at (count - index) ≡ all
    → (done ++ x ∷ []) ++ records read width (at + width) (count - (index + 1)) ≡ all
rest_done read width at count index done all x inside is h = rw (append_assoc, is, ← rest_more read width at count index inside) h

-- all records are done
pub all_done : {R : Type 0} (read : ℕ → R) (width at count index : ℕ) (done all : List R) → count ≤ index → done ++ records read width at (count - index) ≡ all → done ≡ all
all_done read width at count index done all past h = rw (rest_end read width at count index past, append-nil) at h

-- the offset of a record, and those after it
pub offsets_more : (width at count index : ℕ) → index < count
    → records (λ o. o) width at (count - index) ≡ at ∷ records (λ o. o) width (at + width) (count - (index + 1))
offsets_more width at count index inside = rest_more (λ (o : ℕ). o) width at count index inside

-- none is left
pub offsets_end : (width at count index : ℕ) → count ≤ index → records (λ o. o) width at (count - index) ≡ []
offsets_end width at count index past = rest_end (λ (o : ℕ). o) width at count index past

less_one : (width n : ℕ) → 0 < n → width * n ≡ width + width * (n - 1)
less_one width zero some = absurd (omega arith)
less_one width (suc n) some = let e : suc n - 1 ≡ n = omega arith in rw e (omega arith)

-- a record and those after it are within the bytes
pub within_more : (width at count index bound : ℕ) → index < count → at + width * (count - index) ≤ bound
    → (at + width ≤ bound) × (at + width + width * (count - (index + 1)) ≤ bound)
within_more width at count index bound inside h =
    let e = less_one width (count - index) (omega arith) in
    let left : count - index - 1 ≡ count - (index + 1) = omega arith in
    let f = rw left at e in
    (omega (arith, f), omega (arith, f))

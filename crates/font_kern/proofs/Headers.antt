-- The subtables of the table kern, one header at a time.
use Rattle.std.proofs.Common.{◌≡◌, ◌≢◌, ℕ, zero, suc, ◌+◌, ◌-◌, Bool, List, [], ◌∷◌, ◌++◌, Result, Ok, Err, refl, ap, ◌∙◌, arith}
use Rattle.std.proofs.lemmas.List.{append-nil}
use Rattle.font_bytes.specs.declared.fault.TableFault.{TableFault}
use Rattle.font_bytes.specs.Results.{and_then}
use Rattle.font_bytes.specs.Room.{room_after}
use Rattle.font_bytes.specs.Words.{need}
use Rattle.font_common.specs.Offsets.{after}
use Rattle.font_common.proofs.Tables.{after_after}
use Rattle.font_kern.specs.declared.subtables.Subtable.{Subtable}
use Rattle.font_kern.specs.Subtables.{subtables_from, subtable_taken, header_size, length_at}

-- the first subtable, and those after it
pub subtables_step : (is_apple : Bool) (table : List ℕ) (room at count left : ℕ) → count ≢ 0 → count - 1 ≡ left
    → subtables_from is_apple table room at count ≡ and_then (room_after room 64) (λ r. and_then (need table at (header_size is_apple))
    (λ _. after (subtable_taken is_apple table at) (subtables_from is_apple table r (at + length_at is_apple table at) left)))
unfolding subtables_from
subtables_step is_apple table room at zero left some e = absurd (some refl)
subtables_step is_apple table room at (suc count) left some e = let f : count ≡ left = omega arith in rw (← f) refl

-- no subtable is left
pub subtables_end : (is_apple : Bool) (table : List ℕ) (room at count : ℕ) (done : List Subtable) → count ≡ 0
    → after done (subtables_from is_apple table room at count) ≡ Ok (done, room)
unfolding subtables_from
subtables_end is_apple table room at zero done none = ap (λ ss. Ok (ss, room)) (append-nil done)
subtables_end is_apple table room at (suc count) done none = absurd (omega arith)

-- one more header is read
pub subtable_done : (is_apple : Bool) (table : List ℕ) (room at count left r : ℕ) (done : List Subtable) → count ≢ 0 → count - 1 ≡ left
    → room_after room 64 ≡ Ok r → need table at (header_size is_apple) ≡ Ok tt
    → after done (subtables_from is_apple table room at count)
    ≡ after (done ++ subtable_taken is_apple table at) (subtables_from is_apple table r (at + length_at is_apple table at) left)
subtable_done is_apple table room at count left r done some e took needed =
    rw (subtables_step is_apple table room at count left some e, took, needed)
    (after_after done (subtable_taken is_apple table at) (subtables_from is_apple table r (at + length_at is_apple table at) left))

-- there is no room for a header
pub subtable_no_room : (is_apple : Bool) (table : List ℕ) (room at count : ℕ) (done : List Subtable) (e : TableFault) → count ≢ 0
    → room_after room 64 ≡ Err e → after done (subtables_from is_apple table room at count) ≡ Err e
subtable_no_room is_apple table room at count done e some took =
    rw (subtables_step is_apple table room at count (count - 1) some refl, took) refl

-- a header goes past the end
pub subtable_short : (is_apple : Bool) (table : List ℕ) (room at count r : ℕ) (done : List Subtable) (e : TableFault) → count ≢ 0
    → room_after room 64 ≡ Ok r → need table at (header_size is_apple) ≡ Err e → after done (subtables_from is_apple table room at count) ≡ Err e
subtable_short is_apple table room at count r done e some took needed =
    rw (subtables_step is_apple table room at count (count - 1) some refl, took, needed) refl

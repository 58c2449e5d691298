-- Lookups of subtables, one subtable at a time.
use Rattle.std.proofs.Common.{◌≡◌, ℕ, ◌+◌, Bool, List, [], ◌∷◌, ◌++◌, length, Result, Ok, Err, refl, ap, ◌∙◌, sym, arith, length-append}
use Rattle.std.proofs.lemmas.List.{append-nil}
use Rattle.font_bytes.specs.declared.fault.TableFault.{TableFault}
use Rattle.font_bytes.specs.Results.{and_then}
use Rattle.font_common.specs.Offsets.{after}
use Rattle.font_common.proofs.Tables.{after_after}
use Rattle.layout_face.specs.declared.positioning.PositioningLookup.{PositioningLookup}
use Rattle.font_kern.specs.declared.kerning.Kerning.{Kerning}
use Rattle.font_kern.specs.declared.subtables.Subtable.{Subtable}
use Rattle.font_kern.specs.Kerning.{kerning_at}
use Rattle.font_kern.specs.Lookups.{kern_lookups, lookups_of}

-- the two lookups of a subtable are appended
pub subtable_added : (is_backward : Bool) (table : List ℕ) (room left : ℕ) (s : Subtable) (subtables : List Subtable) (done more : List PositioningLookup) (k : Kerning)
    → kerning_at is_backward room table s ≡ Ok (k, left) → more ≡ done ++ lookups_of (length done) k
    → after done (kern_lookups is_backward table room (length done) (s ∷ subtables)) ≡ after more (kern_lookups is_backward table left (length more) subtables)
subtable_added is_backward table room left s subtables done more k read e =
    let long : length done + 2 ≡ length (done ++ lookups_of (length done) k) = sym (length-append done (lookups_of (length done) k)) in
    rw (read, e) (after_after done (lookups_of (length done) k) (kern_lookups is_backward table left (length done + 2) subtables)
    ∙ ap (λ n. after (done ++ lookups_of (length done) k) (kern_lookups is_backward table left n subtables)) long)

-- a subtable is refused
pub subtable_refused : (is_backward : Bool) (table : List ℕ) (room : ℕ) (s : Subtable) (subtables : List Subtable) (done : List PositioningLookup) (e : TableFault)
    → kerning_at is_backward room table s ≡ Err e → after done (kern_lookups is_backward table room (length done) (s ∷ subtables)) ≡ Err e
subtable_refused is_backward table room s subtables done e read = rw read refl

-- no subtable is left
pub subtables_added : (is_backward : Bool) (table : List ℕ) (room n : ℕ) (done : List PositioningLookup) → after done (kern_lookups is_backward table room n []) ≡ Ok (done, room)
subtables_added is_backward table room n done = ap (λ ls. Ok (ls, room)) (append-nil done)

-- a refusal after others is one before them
pub refused_after : {A : Type 0} (done : List A) (rest : Result (List A × ℕ) TableFault) (e : TableFault) → after done rest ≡ Err e → rest ≡ Err e
refused_after done (Ok r) e h = cc
refused_after done (Err f) e h = cc

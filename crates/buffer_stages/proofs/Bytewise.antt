-- Bytes of syllables.
use Rattle.std.proofs.Common.{ℕ, zero, suc, ◌≡◌, ◌<◌, ◌≤◌, ◌+◌, ◌*◌, ◌-◌, ◌/◌, ◌%◌, Bool, true, false, nat_lt, if◌then◌else◌, [], ◌∷◌, length, refl, ◌∙◌, arith}
use Rattle.std.specs.Prelude.{replicate}
use Rattle.std.proofs.lemmas.Bool.Decides.{nat_tests}
use Rattle.std.proofs.lemmas.List.{length-append, length-replicate}
use Rattle.buffer_stages.specs.Bytes.{BytesAreOne, ByteGivesSyllable, NeighboursDiffer, bytes_from, syllable_byte}
use Rattle.buffer_stages.specs.Cuts.{EndsInside, syllable_from, syllables_from}
use Rattle.buffer_stages.specs.Examples.{Examples}

counted_from : (next : ℕ → ℕ × ℕ) (count : ℕ) → EndsInside next count → (most index start : ℕ) → start ≤ count → count - start ≤ most
    → length (bytes_from index (syllables_from next count most start)) ≡ count - start
counted_from next count h zero index start le few = omega (arith, le, few)
counted_from next count h (suc most) index start le few =
    by_test (nat_lt start count) refl (λ lt. counted_from next count h most (index + 1) (next start).0 (h.inside start lt) (omega (arith, h.after start lt, h.inside start lt, few)))
  where
    by_test : (t : Bool) → nat_lt start count ≡ t
        → (start < count → length (bytes_from (index + 1) (syllables_from next count most (next start).0)) ≡ count - (next start).0)
        → length (bytes_from index (if t then syllable_from next start ∷ syllables_from next count most (next start).0 else [])) ≡ count - start
    by_test true e later =
        let lt : start < count = grind (arith, nat_tests, e) in
        let byte = syllable_byte index (next start).1 in
        let rest = bytes_from (index + 1) (syllables_from next count most (next start).0) in
        let ends = h.after start lt in
        let within = h.inside start lt in
        length-append (replicate ((next start).0 - start) byte) rest
        ∙ omega (arith, length-replicate ((next start).0 - start) byte, later lt, ends, within)
    by_test false e later = let past : count ≤ start = grind (arith, nat_tests, e) in omega (arith, past)

pub bytes_are_one : BytesAreOne
bytes_are_one next count h = counted_from next count h count 0 0 (omega arith) (omega arith) ∙ omega arith

pub bytes_tell : ByteGivesSyllable
bytes_tell index kind lt =
    let byte = syllable_byte index kind in
    let serial : index % 15 < 15 = omega arith in
    record { fits = omega (arith, serial, lt); serial = omega (arith, serial, lt); kind_below = omega (arith, serial, lt) }

pub neighbours_differ : NeighboursDiffer
neighbours_differ index kind other lt less e =
    let now : 15 * (index / 15) + index % 15 ≡ index = omega arith in
    let later : 15 * ((index + 1) / 15) + (index + 1) % 15 ≡ index + 1 = omega arith in
    let same : index % 15 ≡ (index + 1) % 15 = omega (arith, lt, less, e) in
    omega (arith, now, later, same)

pub examples : Examples
examples = record { pieces = refl; two_bytes = refl; sixteen_bytes = refl }

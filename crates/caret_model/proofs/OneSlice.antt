-- Each byte of a text is in exactly one slice.
use Rattle.std.proofs.Common.{ℕ, zero, suc, ◌≡◌, ◌≤◌, ◌<◌, ◌+◌, ◌==◌, ◌||◌, ◌⊎◌, Bool, true, false, List, [], ◌∷◌, ◌++◌, length, map, reverse, arith, inl, inr, refl, sym, ap, subst}
use Rattle.std.specs.Prelude.{IsTrue, Some, slice_get}
use Rattle.std.specs.Char.{len_utf8}
use Rattle.std.specs.Str.{chars}
use Rattle.std.proofs.lemmas.Bool.{cases_lt}
use Rattle.std.proofs.lemmas.Bool.Decides.{nat_tests}
use Rattle.std.proofs.lemmas.Grind.{common_steps}
use Rattle.std.proofs.lemmas.List.{length-append, reverse-append}
use Rattle.std.proofs.lemmas.Str.{encodes-chars, len_utf8_bounds, length-encode}
use Rattle.kuspveli.specs.buffer_glyphs.Order.{has_number}
use Rattle.kuspveli.specs.buffer_parts.Slices.{AreJoined, IsIn}
use Rattle.kuspveli.specs.shape_slices.declared.slices.SourceSlice.{SourceSlice}
use Rattle.kuspveli.specs.shape_slices.Runs.{along_glyphs, byte_range}
use Rattle.kuspveli.specs.shaping_buffer.buffer_core.Text.{offsets_from}
use Rattle.caret_model.specs.Laws.{BytesAreInOneSlice, IsInOneSlice, StartsAreInOneSlice}
use Rattle.caret_model.proofs.Joins.{joined_before}
use lib.Utf8.{encode, encodes}

-- ---- the first of some slices, or a later one

first_alone : (s : SourceSlice) (ss : List SourceSlice) (n : ℕ) → IsIn (byte_range s) n → ((k : ℕ) (q : SourceSlice) → slice_get ss k ≡ Some q → ¬ IsIn (byte_range q) n) → IsInOneSlice (s ∷ ss) n
first_alone s ss n here none = record { index = 0; slice = s; is = refl; has = here; alone = alone }
  where
    alone : (k : ℕ) (q : SourceSlice) → slice_get (s ∷ ss) k ≡ Some q → IsIn (byte_range q) n → k ≡ 0
    alone zero q at is = refl
    alone (suc k) q at is = absurd (none k q at is)

later_alone : (s : SourceSlice) (ss : List SourceSlice) (n : ℕ) → ¬ IsIn (byte_range s) n → IsInOneSlice ss n → IsInOneSlice (s ∷ ss) n
later_alone s ss n other rest = record { index = suc rest.index; slice = rest.slice; is = rest.is; has = rest.has; alone = alone }
  where
    alone : (k : ℕ) (q : SourceSlice) → slice_get (s ∷ ss) k ≡ Some q → IsIn (byte_range q) n → k ≡ suc rest.index
    alone zero q at is = let same : s ≡ q = cc in let P : SourceSlice → Type 0 = λ r. IsIn (byte_range r) n in absurd (other (subst P (sym same) is))
    alone (suc k) q at is = ap suc (rest.alone k q at is)

-- ---- along a forward line

starts_above : (from to : ℕ) (ss : List SourceSlice) (k : ℕ) (q : SourceSlice) → AreJoined from to (map byte_range ss) → slice_get ss k ≡ Some q → from ≤ q.start
starts_above from to [] k q h at = cc
starts_above from to (s ∷ ss) zero q h at = let same : s ≡ q = cc in let start : s.start ≡ q.start = ap (λ (r : SourceSlice). r.start) same in let first = h.0 in omega (arith, first, start)
starts_above from to (s ∷ ss) (suc k) q h at = let later = starts_above s.end to ss k q h.2 at in let first = h.0 in let some = h.1 in omega (arith, first, some, later)

in_one_rising : (from to n : ℕ) (ss : List SourceSlice) → AreJoined from to (map byte_range ss) → from ≤ n → n < to → IsInOneSlice ss n
in_one_rising from to n [] h low high = absurd (omega (arith, h, low, high))
in_one_rising from to n (s ∷ ss) h low high =
    let first = h.0 in
    elim (cases_lt n s.end) [
      | inl within ↦ first_alone s ss n (omega (arith, first, low), within) (λ k q at is. let over = starts_above s.end to ss k q h.2 at in let under = is.0 in omega (arith, over, under, within))
      | inr past ↦ later_alone s ss n (λ is. let under = is.1 in omega (arith, under, past)) (in_one_rising s.end to n ss h.2 past high)
    ]

-- ---- along a backward line

last_joined : (from to : ℕ) (s : SourceSlice) (ss : List SourceSlice) → AreJoined from to (reverse (map byte_range (s ∷ ss))) → (s.start < s.end) × (s.end ≡ to) × AreJoined from s.start (reverse (map byte_range ss))
last_joined from to s ss h =
    let turned : reverse (byte_range s ∷ map byte_range ss) ≡ reverse (map byte_range ss) ++ byte_range s ∷ [] = reverse-append (byte_range s ∷ []) (map byte_range ss) in
    joined_before from to (reverse (map byte_range ss)) (byte_range s) (subst (AreJoined from to) turned h)

ends_below : (from to : ℕ) (ss : List SourceSlice) (k : ℕ) (q : SourceSlice) → AreJoined from to (reverse (map byte_range ss)) → slice_get ss k ≡ Some q → q.end ≤ to
ends_below from to [] k q h at = cc
ends_below from to (s ∷ ss) zero q h at = let same : s ≡ q = cc in let end : s.end ≡ q.end = ap (λ (r : SourceSlice). r.end) same in let parts = last_joined from to s ss h in let last = parts.1 in omega (arith, last, end)
ends_below from to (s ∷ ss) (suc k) q h at =
    let parts = last_joined from to s ss h in
    let later = ends_below from s.start ss k q parts.2 at in
    let some = parts.0 in
    let last = parts.1 in
    omega (arith, last, some, later)

in_one_falling : (from to n : ℕ) (ss : List SourceSlice) → AreJoined from to (reverse (map byte_range ss)) → from ≤ n → n < to → IsInOneSlice ss n
in_one_falling from to n [] h low high = absurd (omega (arith, h, low, high))
in_one_falling from to n (s ∷ ss) h low high =
    let parts = last_joined from to s ss h in
    let last = parts.1 in
    elim (cases_lt n s.start) [
      | inl before ↦ later_alone s ss n (λ is. let over = is.0 in omega (arith, over, before)) (in_one_falling from s.start n ss parts.2 low before)
      | inr within ↦ first_alone s ss n (within, omega (arith, last, high)) (λ k q at is. let under = ends_below from s.start ss k q parts.2 at in let over = is.1 in omega (arith, over, under, within))
    ]

pub in_one_slice : (falls : Bool) (end n : ℕ) (ss : List SourceSlice) → AreJoined 0 end (along_glyphs falls (map byte_range ss)) → n < end → IsInOneSlice ss n
in_one_slice false end n ss h within = in_one_rising 0 end n ss h (omega arith) within
in_one_slice true end n ss h within = in_one_falling 0 end n ss h (omega arith) within

pub bytes_are_in_one_slice : BytesAreInOneSlice
bytes_are_in_one_slice l n is within = in_one_slice l.backward l.end n l.slices is.joined within

-- ---- the starts of characters

either_holds : (a b : Bool) → IsTrue (a || b) → (a ≡ true) ⊎ IsTrue b
either_holds true b h = inl refl
either_holds false b h = inr h

start_before_end : (at n : ℕ) (cs : List ℕ) → IsTrue (has_number (offsets_from at cs) n) → n < at + length (encodes cs)
start_before_end at n [] h = cc
start_before_end at n (c ∷ cs) h =
    let many = length-append (encode c) (encodes cs) in
    let size = length-encode c in
    let some = len_utf8_bounds c in
    let one = some.0 in
    elim (either_holds (at == n) (has_number (offsets_from (at + len_utf8 c) cs) n) h) [
      | inl here ↦ let same : at ≡ n = grind (arith, nat_tests, common_steps, here) in omega (arith, many, size, one, same)
      | inr later ↦ let rest = start_before_end (at + len_utf8 c) n cs later in omega (arith, many, size, rest)
    ]

pub starts_are_in_one_slice : StartsAreInOneSlice
starts_are_in_one_slice d result text l n utf8 is start =
    let before = start_before_end 0 n (chars text) start in
    let bytes : length (encodes (chars text)) ≡ length text = ap length (encodes-chars text utf8) in
    let end = is.end in
    bytes_are_in_one_slice l n is.line (omega (arith, before, bytes, end))

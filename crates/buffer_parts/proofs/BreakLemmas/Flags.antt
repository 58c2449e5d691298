-- Flags of an origin.
use Rattle.std.proofs.Common.{ℕ, zero, suc, ◌≡◌, ◌<◌, ◌==◌, ◌&&◌, not, Bool, true, false, if◌then◌else◌, arith, refl, ap, ◌∙◌}
use Rattle.std.specs.Int.RustNames.{bit_and, bit_or}
use Rattle.std.proofs.lemmas.Grind.{common_steps}
use Rattle.std.proofs.lemmas.Nat.{le_or_l, or_comm}
use Rattle.std.proofs.lemmas.Nat.Bits.{bit_at_and, bit_at_or, same_from_bits}
use Rattle.buffer_glyphs.specs.Origins.{Origin, flags_added, added_outside, is_unsafe}
use Rattle.buffer_parts.specs.Breaks.Unsafe.{is_unsafe_of}
use Rattle.buffer_facts.proofs.Numbers.{same_by_test as equal_test, test_of_same as test_equal}
use Rattle.buffer_facts.proofs.Truth.{and_true, both_true}
use Rattle.buffer_facts.proofs.Bits.{and_of_or as and_or}

-- ---- bits

above_none : (n : ℕ) → not (n == 0) ≡ true → 0 < n
above_none zero h = cc
above_none (suc n) h = omega arith

not_none : (n : ℕ) → 0 < n → not (n == 0) ≡ true
not_none n h = grind (arith, common_steps, h)

-- flags that are added to leave what is unsafe
pub unsafe_kept : (a b : ℕ) → is_unsafe a ≡ true → is_unsafe (bit_or a b) ≡ true
unsafe_kept a b h =
    let both = and_or 5 a b in
    let some = above_none (bit_and a 5) h in
    let more = le_or_l (bit_and a 5) (bit_and b 5) in
    not_none (bit_and (bit_or a b) 5) (omega (arith, both, some, more))

pub unsafe_added : (a b : ℕ) → is_unsafe b ≡ true → is_unsafe (bit_or a b) ≡ true
unsafe_added a b h = ap is_unsafe (or_comm a b) ∙ unsafe_kept b a h

-- a bit that neither of two numbers has
pub clear_or : (a b : ℕ) → bit_and a 4 ≡ 0 → bit_and b 4 ≡ 0 → bit_and (bit_or a b) 4 ≡ 0
clear_or a b e f = and_or 4 a b ∙ rw (e, f) refl

-- ---- origins

pub unsafe_of : (c : ℕ) (o : Origin) → is_unsafe_of c o ≡ true → (o.cluster ≡ c) × (is_unsafe o.flags ≡ true)
unsafe_of c o h = let both = both_true (o.cluster == c) (is_unsafe o.flags) h in (equal_test o.cluster c both.0, both.1)

pub of_unsafe : (c : ℕ) (o : Origin) → o.cluster ≡ c → is_unsafe o.flags ≡ true → is_unsafe_of c o ≡ true
of_unsafe c o e h = and_true (o.cluster == c) (is_unsafe o.flags) (test_equal o.cluster c e) h

pub added_stays : (c bits : ℕ) (o : Origin) → is_unsafe_of c o ≡ true → is_unsafe_of c (flags_added bits o) ≡ true
added_stays c bits o h = let both = unsafe_of c o h in of_unsafe c (flags_added bits o) both.0 (unsafe_kept o.flags bits both.1)

pub outside_stays : (c bits low : ℕ) (o : Origin) → is_unsafe_of c o ≡ true → is_unsafe_of c (added_outside bits low o) ≡ true
outside_stays c bits low o h = elim (o.cluster == low) as (λ t. is_unsafe_of c (if t then o else flags_added bits o) ≡ true) [ true ↦ h | false ↦ added_stays c bits o h ]

-- Bits of natural numbers.
use Rattle.std.proofs.Common.{ℕ, ◌≡◌, arith, ◌+◌, ◌*◌, ◌-◌, ap, ◌∙◌, Bool, true, false, if◌then◌else◌}
use Rattle.std.proofs.lemmas.Nat.{and_mask, and_mod, and_le_l, and_or_apart}
use Rattle.std.proofs.lemmas.Nat.Bits.{bit_at_and, bit_at_or, same_from_bits}
use Rattle.std.specs.Int.Bits.{and_zero_r}
use Rattle.std.specs.Int.RustNames.{bit_and, bit_or}
use Rattle.std.specs.Prelude.{◌/◌, ◌%◌}

pub and_of_or : (n a m : ℕ) → bit_and (bit_or a m) n ≡ bit_or (bit_and a n) (bit_and m n)
and_of_or n a m =
    same_from_bits (bit_and (bit_or a m) n) (bit_or (bit_and a n) (bit_and m n)) (λ i.
    let one = bit_at_and (bit_or a m) n i in
    let two = bit_at_or a m i in
    let three = bit_at_or (bit_and a n) (bit_and m n) i in
    let four = bit_at_and a n i in
    let five = bit_at_and m n i in
    omega (arith, one, two, three, four, five))

pub above_29_bits : (a r : ℕ) → (a * 536870912 + r % 536870912) / 536870912 ≡ a
above_29_bits a r = omega arith

pub bit_28 : (a r : ℕ) → (a * 536870912 + r % 536870912) / 268435456 % 2 ≡ r / 268435456 % 2
bit_28 a r = omega arith

pub below_28_bits : (a r : ℕ) → (a * 536870912 + r % 536870912) % 268435456 ≡ r % 268435456
below_28_bits a r = omega arith

pub three_bits_stay : (m under : ℕ) → under % 8 ≡ 0 → bit_and (m - bit_and m under) 7 ≡ bit_and m 7
three_bits_stay m under none =
    let a = and_mask (m - bit_and m under) 3 in
    let b = and_mask m 3 in
    let low = and_mod m under 3 in
    let off : bit_and (m % 8) (under % 8) ≡ 0 = ap (bit_and (m % 8)) none ∙ and_zero_r (m % 8) in
    let most = and_le_l m under in
    omega (arith, a, b, low, off, most)

pub either_without_three_bits : (t : Bool) (a b : ℕ) → bit_and a 7 ≡ 0 → bit_and b 7 ≡ 0 → bit_and (if t then a else b) 7 ≡ 0
either_without_three_bits true a b e f = e
either_without_three_bits false a b e f = f

pub both_without_three_bits : (a b : ℕ) → bit_and a 7 ≡ 0 → bit_and b 7 ≡ 0 → bit_and (bit_or a b) 7 ≡ 0
both_without_three_bits a b e f = and_or_apart 7 a b f ∙ e

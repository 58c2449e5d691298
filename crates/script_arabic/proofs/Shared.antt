-- How large the numbers of a run in range are.
use Rattle.std.proofs.Common.{ℕ, ℤ, pos, negsuc, ◌≡◌, ◌≤◌, ◌<◌, ◌+◌, ◌-◌, ◌*◌, ◌/◌, ◌&&◌, Bool, true, false, nat_le, nat_lt, if◌then◌else◌, refl, ap, ◌∙◌, arith}
use Rattle.std.proofs.lemmas.Bool.Decides.{nat_tests}
use Rattle.std.proofs.Math.Nat.{div-le_self, div-mul-le_self, lt-div-mul-add, div-div-eq-div-mul, add-mul, div-zero, zero-mul, mul-zero}
use Rattle.script_arabic.specs.declared.runs.Run.{Run}
use Rattle.script_arabic.specs.Copies.{copies, left_of_word, natural}
use Rattle.script_arabic.specs.Laying.{fits, overlap, run_in_range}
use Rattle.std.proofs.lemmas.Bool.{and_parts}

word_small : (w : ℤ) → fits w ≡ true → natural w ≤ 0x7FFF_FFFF
word_small (pos n) e = grind (arith, nat_tests, e)
word_small (negsuc n) e = omega arith

left_small : (r : Run) → run_in_range r ≡ true → left_of_word r ≤ 0x7FFF_FFFF
left_small r e = let a = word_small r.word ((and_parts (fits r.word) (nat_le r.fixed 0x7FFF_FFFF) ((and_parts (fits r.word && nat_le r.fixed 0x7FFF_FFFF) (nat_le r.repeating 0x7FFF_FFFF) e).0)).0) in omega (arith, a)

repeating_small : (r : Run) → run_in_range r ≡ true → r.repeating ≤ 0x7FFF_FFFF
repeating_small r e = let a = (and_parts (fits r.word && nat_le r.fixed 0x7FFF_FFFF) (nat_le r.repeating 0x7FFF_FFFF) e).1 in grind (arith, nat_tests, a)

copies_if : (t : Bool) (m w : ℕ) → (if t then (m - 1) / w else 0) ≤ m
copies_if true m w = let a = div-le_self (m - 1) w in omega (arith, a)
copies_if false m w = omega arith

pub few_copies : (r : Run) → run_in_range r ≡ true → copies r ≤ 0x7FFF_FFFF
few_copies r e = let a = copies_if (nat_lt 0 r.repeating && nat_lt r.repeating (left_of_word r)) (left_of_word r) r.repeating in let b = left_small r e in omega (arith, a, b)

-- with their copies tiles are as wide as what the word leaves, and wider by less than one of them all
pub record IsEnough (left w c : ℕ) : Type 0 where
  pub enough : left ≤ (c + 1) * w
  pub little : (c + 1) * w ≤ left + w

enough_if : (t : Bool) (left w : ℕ) → (nat_lt 0 w && nat_lt w left) ≡ t → 0 < (if t then (left - 1) / w else 0) → IsEnough left w (if t then (left - 1) / w else 0)
enough_if false left w e lt = absurd (omega (arith, lt))
enough_if true left w e lt =
    let some : 0 < w = (let a = (and_parts (nat_lt 0 w) (nat_lt w left) e).0 in grind (arith, nat_tests, a)) in
    let more : w < left = (let a = (and_parts (nat_lt 0 w) (nat_lt w left) e).1 in grind (arith, nat_tests, a)) in
    let c = (left - 1) / w in
    let a : left - 1 < c * w + w = lt-div-mul-add some in
    let b = div-mul-le_self (left - 1) w in
    let whole : (c + 1) * w ≡ c * w + 1 * w = add-mul c 1 w in
    record { enough = omega (arith, a, whole, more); little = omega (arith, b, whole, more) }

pub are_enough : (r : Run) → 0 < copies r → IsEnough (left_of_word r) r.repeating (copies r)
are_enough r lt = enough_if (nat_lt 0 r.repeating && nat_lt r.repeating (left_of_word r)) (left_of_word r) r.repeating refl lt

pub tiles_reach : (r : Run) → 0 < copies r → left_of_word r ≤ (copies r + 1) * r.repeating
tiles_reach r lt = (are_enough r lt).enough

pub excess_small : (r : Run) → run_in_range r ≡ true → 0 < copies r → (copies r + 1) * r.repeating - left_of_word r ≤ 0x7FFF_FFFF
excess_small r e lt = let a = (are_enough r lt).little in let b = repeating_small r e in omega (arith, a, b)

-- so much is a number of 64 bits
pub both_small : (r : Run) → run_in_range r ≡ true → 0 < copies r → (copies r + 1) * r.repeating ≤ 0xFFFF_FFFE
both_small r e lt = let a = (are_enough r lt).little in let b = repeating_small r e in let d = left_small r e in omega (arith, a, b, d)

pub shared_twice : (m n k : ℕ) → m / n / k ≡ m / (n * k)
shared_twice m n k = div-div-eq-div-mul m n k

pub shared_small : (m n : ℕ) → m ≤ 0x7FFF_FFFF → m / n ≤ 0x7FFF_FFFF
shared_small m n le = let a = div-le_self m n in omega (arith, a, le)

shared_by_none : (m n : ℕ) → n ≡ 0 → m / n ≡ 0
shared_by_none m n e = ap (λ k. m / k) e ∙ div-zero m

pub none_over : (r : Run) → copies r ≡ 0 → overlap r ≡ 0
none_over r e = shared_by_none ((copies r + 1) * r.repeating - left_of_word r) (copies r * r.tiles) (ap (λ c. c * r.tiles) e ∙ zero-mul r.tiles)

pub over_none : (r : Run) → r.tiles ≡ 0 → overlap r ≡ 0
over_none r e = shared_by_none ((copies r + 1) * r.repeating - left_of_word r) (copies r * r.tiles) (ap (λ c. copies r * c) e ∙ mul-zero (copies r))

-- there are copies only where repeating tiles have a width, and the word leaves one for them
pub record AreWide (left w : ℕ) : Type 0 where
  pub repeating : 0 < w
  pub some : 0 < left

wide_if : (t : Bool) (left w : ℕ) → (nat_lt 0 w && nat_lt w left) ≡ t → 0 < (if t then (left - 1) / w else 0) → AreWide left w
wide_if false left w e lt = absurd (omega (arith, lt))
wide_if true left w e lt =
    let some : 0 < w = (let a = (and_parts (nat_lt 0 w) (nat_lt w left) e).0 in grind (arith, nat_tests, a)) in
    let more : w < left = (let a = (and_parts (nat_lt 0 w) (nat_lt w left) e).1 in grind (arith, nat_tests, a)) in
    record { repeating = some; some = omega (arith, some, more) }

pub repeats_some : (r : Run) → 0 < copies r → AreWide (left_of_word r) r.repeating
repeats_some r lt = wide_if (nat_lt 0 r.repeating && nat_lt r.repeating (left_of_word r)) (left_of_word r) r.repeating refl lt

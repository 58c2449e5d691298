-- Distances that are divided evenly.
use Rattle.std.proofs.Common.{ℕ, zero, suc, ◌≡◌, ◌≤◌, ◌<◌, ◌+◌, ◌*◌, ◌/◌, ◌%◌, ◌-◌, arith}
use Rattle.std.specs.Prelude.{min}
use Rattle.std.proofs.Math.Nat.{div-mul-le_self, mod-eq-sub-div-mul}

times_more : (q j n : ℕ) → j ≤ n → q * j ≤ q * n
times_more zero j n le = omega arith
times_more (suc q) j n le = let rest = times_more q j n le in omega (arith, le, rest)

-- some steps of an even length are no longer than the distance
pub even_within : (distance n j : ℕ) → j ≤ n → distance / n * j ≤ distance
even_within distance n j le =
    let some = times_more (distance / n) j n le in
    let all = div-mul-le_self distance n in
    omega (arith, some, all)

-- nor are they with those that are longer by a unit
pub steps_within : (distance n j : ℕ) → j ≤ n → distance / n * j + min j (distance % n) ≤ distance
steps_within distance n j le =
    let some = times_more (distance / n) j n le in
    let all = div-mul-le_self distance n in
    let left = mod-eq-sub-div-mul distance n in
    least j (distance % n) some all left
  where
    least : (a b : ℕ) → distance / n * j ≤ distance / n * n → distance / n * n ≤ distance → b ≡ distance - distance / n * n → distance / n * j + min a b ≤ distance
    least a b some all left = omega (arith, some, all, left)

-- Records of one width within some bytes.
use Rattle.std.proofs.Common.{◌≡◌, ℕ, ◌+◌, ◌*◌, ◌<◌, ◌≤◌, arith}
use Rattle.std.proofs.Math.Nat.{mul-le-mul_left}

-- so many records have less than 2^64 bytes
pub all_fit : (width count : ℕ) → width < 256 → count < 4294967296 → width * count < 18446744073709551616
all_fit width count w c =
    let most : width * count ≤ width * 4294967296 = mul-le-mul_left width (omega (arith, c)) in
    omega (arith, most, w)

-- a record is within the bytes that all have
pub one_fits : (start width count index size : ℕ) → index < count → start + width * count ≤ size → start + width * index + width ≤ size
one_fits start width count index size inside all =
    let most : width * (index + 1) ≤ width * count = mul-le-mul_left width (omega (arith, inside)) in
    let step : width * (index + 1) ≡ width * index + width = grind arith in
    omega (arith, most, step, all)

-- Parts of an em.
use Rattle.std.proofs.Common.{ℕ, zero, suc, ◌≡◌, ◌<◌, ◌+◌, ◌*◌, ◌/◌, true, arith}
use Rattle.std.specs.Prelude.{◌^◌}
use Rattle.std.proofs.lemmas.Bool.{false≢true}
use Rattle.std.proofs.Math.Nat.{div-lt_iff_lt-mul}
use Rattle.shape_fallback.specs.Spaces.{is_part_of_em}

pub part_positive : (part : ℕ) → is_part_of_em part ≡ true → 0 < part
part_positive zero e = absurd (false≢true e)
part_positive (suc n) e = omega arith

pub part_small : (em part : ℕ) → 0 < part → em < 2 ^ 31 → (em + part / 2) / part < 2 ^ 31
part_small em part lt small =
    let under : em + part / 2 < 2147483648 * part = omega (arith, lt, small) in
    (div-lt_iff_lt-mul lt).1 under

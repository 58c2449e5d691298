use Rattle.std.proofs.Common.{◌≤◌, ◌<◌, ◌*◌, arith}
use Rattle.std.proofs.Math.Nat.{mul-le-mul_right}
use Rattle.font_positioning.proofs.classes.row_size.Goals as goal

pub returns-clause-few : goal.returns-clause-few
returns-clause-few c =
    let fewer : c.pair_size.result * c.from.result ≤ 80 * c.from.result = mul-le-mul_right c.from.result c.pair_size.ensures.few in
    let count : c.from.result < 65536 = omega arith in
    omega (arith, fewer, count)

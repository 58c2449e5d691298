use Rattle.std.proofs.Common.{◌^◌, ◌+◌, ◌<◌, ◌≤◌, arith}
use Rattle.std.proofs.lemmas.Nat.{pow_pos, pow_below}
use Rattle.std.proofs.Math.Nat.{pow-le-pow_right}
use Rattle.buffer_common.proofs.constants.rb_flag_range.Goals as goal

pub overflow_sub-result : goal.overflow_sub-result
overflow_sub-result c = omega (arith, pow_below c.args.first (c.args.last + 1) (omega arith))

pub overflow_cast-result : goal.overflow_cast-result
overflow_cast-result c =
    let positive : 0 < 2 = omega arith in
    let within : c.args.last + 1 ≤ 32 = omega arith in
    let most : 2 ^ (c.args.last + 1) ≤ 2 ^ 32 = pow-le-pow_right {n = 2} positive within in
    omega (arith, most, pow_pos c.args.first)

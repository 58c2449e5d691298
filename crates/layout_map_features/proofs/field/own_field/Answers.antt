use Rattle.std.proofs.Common.{◌≡◌, ◌≤◌, ◌<◌, ◌+◌, ◌-◌, ◌*◌, ◌%◌, ◌^◌, refl, arith}
use Rattle.std.proofs.Math.Pow.{pow-sub-lt}
use Rattle.std.proofs.Math.Nat.{one-le-pow}
use Rattle.std.proofs.lemmas.Nat.{shl_whole, mod_below}
use Rattle.layout_map_features.proofs.field.own_field.Goals as goal

pub returns : goal.returns
returns c =
    let count = c.args.count in
    let next = c.args.next in
    let few : count ≤ 8 = c.requires.few in
    let within : next + count < 31 = c.requires.within in
    let there : 1 ≤ 2 ^ count = one-le-pow count 2 (omega arith) in
    let power : (1 * 2 ^ count) % 4294967296 ≡ 1 * 2 ^ count = shl_whole 1 1 count 32 (omega arith) (omega (arith, few)) in
    let mask : ((2 ^ count - 1) * 2 ^ next) % 4294967296 ≡ (2 ^ count - 1) * 2 ^ next = shl_whole (2 ^ count - 1) count next 32 (pow-sub-lt count (omega arith)) (omega (arith, within)) in
    let lowest : (1 * 2 ^ next) % 4294967296 ≡ 1 * 2 ^ next = shl_whole 1 1 next 32 (omega arith) (omega (arith, within)) in
    let default : (c.args.value % 2 ^ count * 2 ^ next) % 4294967296 ≡ c.args.value % 2 ^ count * 2 ^ next = shl_whole (c.args.value % 2 ^ count) count next 32 (mod_below c.args.value (2 ^ count) (omega (arith, there))) (omega (arith, within)) in
    let one : 1 * 2 ^ count ≡ 2 ^ count = omega arith in
    let bit : 1 * 2 ^ next ≡ 2 ^ next = omega arith in
    rw (power, one, mask, lowest, bit, default) refl

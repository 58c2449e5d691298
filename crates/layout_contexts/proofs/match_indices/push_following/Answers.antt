use Rattle.std.proofs.Common.{◌≡◌, ◌+◌, ◌++◌, length, take, ◌-◌, arith}
use Rattle.layout_contexts.specs.Shifts.{following}
use Rattle.layout_contexts.proofs.Shifted.{following_on, following_full, following_all}
use Rattle.layout_contexts.proofs.match_indices.push_following.Goals as goal

pub returns-then-is_full : goal.returns-then-is_full
returns-then-is_full c =
    let e : length c.loop-k.indices.items ≡ 64 = grind (arith, c.is_full.ensures.value, c.if-is_full.true) in
    following_full (following (c.args.index + c.loop-k.k) (c.args.count - c.loop-k.k)) c.loop-k.indices.items (take 64 (c.args.indices.now.items ++ following c.args.index c.args.count)) e c.loop-k.invariant.1

pub loop-k-preserved : goal.loop-k-preserved
loop-k-preserved c = (
  grind (arith, c.is_full.ensures.value, c.if-is_full.false, c.is_full.ensures.fits, c.push.ensures.len),
  following_on c.args.index c.args.count c.loop-k.k c.loop-k.indices.items c.push.new.self.items (take 64 (c.args.indices.now.items ++ following c.args.index c.args.count)) (omega (arith, c.loop-k-test.true)) c.loop-k.invariant.1 c.push.ensures.items,
)

pub returns : goal.returns
returns c =
    following_all c.args.index c.args.count c.loop-k.k c.loop-k.indices.items (take 64 (c.args.indices.now.items ++ following c.args.index c.args.count)) (omega (arith, c.loop-k-test.false)) c.loop-k.invariant.0 c.loop-k.invariant.1

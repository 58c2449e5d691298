use Rattle.std.proofs.Common.{◌≡◌, ◌+◌, ◌-◌, ◌++◌, length, take, drop, map, arith}
use Rattle.layout_contexts.proofs.Shifted.{following_full, moved_all}
use Rattle.layout_contexts.proofs.match_indices.push_moved.Goals as goal

pub returns-then-is_full : goal.returns-then-is_full
returns-then-is_full c =
    let e : length c.loop-index.indices.items ≡ 64 = grind (arith, c.is_full.ensures.value, c.if-is_full.true) in
    following_full (map (λ q. q + c.args.after - c.args.before) (drop c.loop-index.index-index c.args.later.now)) c.loop-index.indices.items (take 64 (c.args.indices.now.items ++ map (λ q. q + c.args.after - c.args.before) c.args.later.now)) e c.loop-index.invariant.1

pub returns : goal.returns
returns c =
    moved_all c.args.before c.args.after c.loop-index.index-index c.args.later.now c.loop-index.indices.items (take 64 (c.args.indices.now.items ++ map (λ q. q + c.args.after - c.args.before) c.args.later.now)) (omega (arith, c.loop-index-test.false)) c.loop-index.invariant.0 c.loop-index.invariant.1

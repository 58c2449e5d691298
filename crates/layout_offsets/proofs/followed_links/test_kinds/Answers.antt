use Rattle.std.proofs.Common.{arith, rules}
use Rattle.layout_offsets.proofs.Tested.{all_seen, far_next, tested_next}
use Rattle.layout_offsets.proofs.followed_links.test_kinds.Goals as goal

pub loop-i-preserved : goal.loop-i-preserved
loop-i-preserved c =
    let s = c.loop-i in
    let seen = s.invariant in
    let t = tested_next c.args.positions.now s.positions c.test_kind-is_far.new.positions s.i (seen.0, seen.1) (search rules) c.test_kind-is_far.ensures.tested in
    (t.0, t.1, far_next c.args.positions.now s.positions s.i s.is_far c.test_kind-is_far.result seen.0 seen.1 (search rules) seen.2 c.test_kind-is_far.ensures.far)

pub returns-clause-far : goal.returns-clause-far
returns-clause-far c = all_seen c.args.positions.now c.loop-i.i c.loop-i.is_far (omega (arith, c.loop-i-test.false, c.loop-i.invariant.1)) c.loop-i.invariant.2

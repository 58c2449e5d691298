use Rattle.std.proofs.Common.{◌<◌, arith}
use Rattle.script_universal.proofs.Steps.{reph_none, reph_some}
use Rattle.script_universal.proofs.reorder.move_reph.Goals as goal

pub returns-then-count-eq0 : goal.returns-then-count-eq0
returns-then-count-eq0 c =
    let r = c.requires in
    reph_none c.args.start c.args.end c.info_slice.result.now c.args.buffer.now r.ordered r.ready c.info_slice.ensures (c.reph_end-count.ensures.none c.if-count-eq0.true)

pub returns : goal.returns
returns c =
    let r = c.requires in
    let other = c.if-count-eq0.false in
    let some : 0 < c.reph_end-count.result = omega (arith, other) in
    reph_some c.args.start c.args.end c.reph_end-count.result c.info_slice.result.now c.args.buffer.now c.first_to_back.new.buffer r.ordered r.within c.info_slice.ensures c.reph_end-count.ensures.within (c.reph_end-count.ensures.some some) (c.reph_end-count.ensures.count some) c.first_to_back.ensures

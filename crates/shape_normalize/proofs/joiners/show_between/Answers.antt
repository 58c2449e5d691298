use Rattle.std.proofs.Common.{arith}
use Rattle.shape_normalize.proofs.Shown.{showing_begun, showing_more, showing_done}
use Rattle.shape_normalize.proofs.joiners.show_between.Goals as goal

pub loop-i-init : goal.loop-i-init
loop-i-init c = showing_begun c.args.count c.mark_class-before.result c.cur.result.now c.args.buffer.now c.requires.ready c.requires.counted c.requires.some c.cur.ensures c.mark_class-before.ensures

pub loop-i-preserved : goal.loop-i-preserved
loop-i-preserved c =
    showing_more c.args.count c.loop-i.i c.loop-i.before c.show_joiner-before.result c.args.buffer.now c.loop-i.buffer c.show_joiner-before.new.buffer c.requires.some c.loop-i-test.true c.loop-i.invariant
    c.show_joiner-before.ensures

pub returns : goal.returns
returns c =
    let ended = c.loop-i-test.false in
    let end = c.loop-i.auto.i-end in
    let some = c.requires.some in
    showing_done c.args.count c.loop-i.i c.loop-i.before c.args.buffer.now c.loop-i.buffer c.requires.some (omega (arith, ended)) (omega (arith, end, some)) c.loop-i.invariant

use Rattle.std.proofs.Common.{arith}
use Rattle.script_universal.proofs.LeftRanges.{halant_walked, last_walked, range_is}
use Rattle.script_universal.proofs.reorder.move_left_from.Goals as goal

pub returns-then-from-count-clause-walked : goal.returns-then-from-count-clause-walked
returns-then-from-count-clause-walked c =
    let r = c.requires in
    let s = range_is c.args.start c.args.end c.args.i c.before_halant-count.result c.info_slice.result.now c.args.buffer.now c.move_range.new.buffer r.there r.within c.info_slice.ensures c.before_halant-count.ensures.count c.before_halant-count.ensures.within c.move_range.ensures in
    last_walked c.args.start c.args.end c.args.i c.before_halant-count.result c.args.buffer.now c.move_range.new.buffer s c.if-from-count.true

pub returns-clause-walked : goal.returns-clause-walked
returns-clause-walked c =
    let r = c.requires in
    let s = range_is c.args.start c.args.end c.args.i c.before_halant-count.result c.info_slice.result.now c.args.buffer.now c.move_range.new.buffer r.there r.within c.info_slice.ensures c.before_halant-count.ensures.count c.before_halant-count.ensures.within c.move_range.ensures in
    let le = s.inside in
    let other = c.if-from-count.false in
    halant_walked c.args.start c.args.end c.args.i c.before_halant-count.result c.args.buffer.now c.move_range.new.buffer s (omega (arith, le, other))

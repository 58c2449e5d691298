use Rattle.buffer_unicode.proofs.Widened.{none_begun, last_range_decides}
use Rattle.buffer_unicode.proofs.ranges.is_in_widened.Goals as goal

pub returns-then-after-eq0 : goal.returns-then-after-eq0
returns-then-after-eq0 c = none_begun c.args.c c.args.rows.now c.first_from-after.result c.first_from-after.ensures c.if-after-eq0.true

pub returns : goal.returns
returns c = last_range_decides c.args.c c.args.rows.now c.first_from-after.result (record { first = 0; last = 0 }) c.requires.ends c.first_from-after.ensures c.if-after-eq0.false

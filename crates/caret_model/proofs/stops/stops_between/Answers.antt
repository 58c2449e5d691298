use Rattle.std.proofs.Common.{arith, sym}
use Rattle.caret_model.proofs.Between.{between_parted, none_between, none_parted}
use Rattle.caret_model.proofs.stops.stops_between.Goals as goal

pub returns-then-last-first : goal.returns-then-last-first
returns-then-last-first c = sym (none_between c.args.stops.now c.args.first c.args.last (omega arith))

pub returns-then-to-from : goal.returns-then-to-from
returns-then-to-from c =
    sym (none_parted c.args.stops.now c.args.first c.args.last c.first_from-from.result c.first_from-to.result c.first_from-from.ensures c.first_from-to.ensures (omega arith))

pub returns : goal.returns
returns c =
    sym (between_parted c.args.stops.now c.args.first c.args.last c.first_from-from.result c.first_from-to.result c.first_from-from.ensures c.first_from-to.ensures)

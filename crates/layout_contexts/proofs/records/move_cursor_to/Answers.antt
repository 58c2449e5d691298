use Rattle.std.proofs.Common.{Ok, ap}
use Rattle.layout_contexts.proofs.Cuts.{went_there}
use Rattle.layout_contexts.proofs.records.move_cursor_to.Goals as goal

pub returns-clause-ok : goal.returns-clause-ok
returns-clause-ok c = went_there c.args.index c.args.buffer.now c.move_to.new.self (c.in_ok-move_to.ensures.moved (ap Ok c.if-not-branch.false))

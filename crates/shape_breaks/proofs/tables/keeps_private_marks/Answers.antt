use Rattle.shape_breaks.specs.Tables.{KeepsPrivateMarksAt}
use Rattle.shape_breaks.proofs.Walks.{one_more}
use Rattle.shape_breaks.proofs.tables.keeps_private_marks.Goals as goal

pub loop-number-preserved : goal.loop-number-preserved
loop-number-preserved c = one_more (KeepsPrivateMarksAt c.args.tables.now) c.loop-number.number c.loop-number.invariant (c.number_keeps_private.ensures.0 cc)

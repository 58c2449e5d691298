use Rattle.shape_breaks.specs.Tables.{KeepsMarksAt}
use Rattle.shape_breaks.proofs.Walks.{one_more}
use Rattle.shape_breaks.proofs.tables.each_keeps_marks.Goals as goal

pub loop-number-preserved : goal.loop-number-preserved
loop-number-preserved c = one_more (KeepsMarksAt c.args.tables.now) c.loop-number.number c.loop-number.invariant (c.number_keeps_marks.ensures.0 cc)

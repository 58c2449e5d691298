use Rattle.shape_breaks.specs.Tables.{KeepsTypeAt}
use Rattle.shape_breaks.proofs.Walks.{one_more}
use Rattle.shape_breaks.proofs.tables.each_keeps_type.Goals as goal

pub loop-number-preserved : goal.loop-number-preserved
loop-number-preserved c = one_more (KeepsTypeAt c.args.tables.now) c.loop-number.number c.loop-number.invariant (c.number_keeps_type.ensures.0 cc)

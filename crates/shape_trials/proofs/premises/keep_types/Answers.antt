use Rattle.shape_trials.specs.Breaks.{KeepsType}
use Rattle.shape_trials.proofs.Characters.{one_more}
use Rattle.shape_trials.proofs.premises.keep_types.Goals as goal

pub loop-number-preserved : goal.loop-number-preserved
loop-number-preserved c = one_more (KeepsType c.args.tables.now) c.loop-number.number c.loop-number.invariant (c.number_keeps_type.ensures.0 cc)

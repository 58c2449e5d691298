use Rattle.shape_trials.specs.Breaks.{KeepsGraphemes}
use Rattle.shape_trials.proofs.Characters.{one_more}
use Rattle.shape_trials.proofs.premises.keep_graphemes.Goals as goal

pub loop-number-preserved : goal.loop-number-preserved
loop-number-preserved c = one_more (KeepsGraphemes c.args.tables.now) c.loop-number.number c.loop-number.invariant (c.number_keeps_graphemes.ensures.0 cc)

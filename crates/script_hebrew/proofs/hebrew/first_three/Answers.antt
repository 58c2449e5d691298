use Rattle.script_hebrew.proofs.Swapped.{next_missed}
use Rattle.script_hebrew.proofs.hebrew.first_three.Goals as goal

pub loop-at-preserved : goal.loop-at-preserved
loop-at-preserved c = next_missed c.loop-at.at c.args.run.now c.begins_with_three.result c.begins_with_three.ensures c.if-begins_with_three.false c.loop-at.invariant

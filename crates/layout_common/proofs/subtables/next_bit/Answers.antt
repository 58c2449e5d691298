use Rattle.layout_common.proofs.Indexed.{none_between}
use Rattle.layout_common.proofs.subtables.next_bit.Goals as goal

pub returns-clause-none : goal.returns-clause-none
returns-clause-none c b low high = none_between c.args.word c.args.from b c.min.result c.ranges.word.fits c.min.ensures low high

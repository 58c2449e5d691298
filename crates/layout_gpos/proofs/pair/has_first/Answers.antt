use Rattle.layout_gpos.proofs.Sought.{first_sought}
use Rattle.layout_gpos.proofs.pair.has_first.Goals as goal

pub returns : goal.returns
returns c = first_sought c.args.first c.args.pairs.now c.rows_of.result.now c.is_empty.result c.rows_of.ensures.of c.is_empty.ensures

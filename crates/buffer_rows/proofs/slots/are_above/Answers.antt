use Rattle.std.proofs.Common.{◌<◌, arith}
use Rattle.std.proofs.lemmas.Bool.{ltb-true}
use Rattle.buffer_rows.proofs.Passes.{start_before}
use Rattle.buffer_rows.proofs.slots.are_above.Goals as goal

pub returns-in-Some-clause-above : goal.returns-in-Some-clause-above
returns-in-Some-clause-above g c = λ e.
    let over : c.args.last < c.number.result = ltb-true _ _ e in
    start_before g.R.Numbered.number_of c.args.rows.now c.args.first c.args.last c.args.at c.in-Some.row.now c.requires.rising c.requires.start c.requires.order c.in-Some.ensures.lookup.3.1 (omega (arith, over, c.number.ensures))

use Rattle.buffer_rows.proofs.Passes.{no_record, start_passed}
use Rattle.buffer_rows.proofs.slots.next_slot.Goals as goal

pub returns-then-are_above-clause-slot : goal.returns-then-are_above-clause-slot
returns-then-are_above-clause-slot g c =
    no_record g.R.Numbered.number_of c.args.rows.now c.args.number c.args.at c.requires.start (c.are_above.ensures.above c.if-are_above.true)

pub returns-clause-start : goal.returns-clause-start
returns-clause-start g c =
    start_passed g.R.Numbered.number_of c.args.rows.now c.args.number c.args.at c.requires.rising c.requires.start (c.are_above.ensures.within c.if-are_above.false) (c.are_above.ensures.least c.if-are_above.false)

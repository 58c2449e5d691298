use Rattle.buffer_rows.proofs.Filled.{AreFilled}
use Rattle.buffer_rows.proofs.dense.fill_slots.Given as goal

-- the slots are those of the records so far
abbrev pub invariant-loop-i : goal.invariant-loop-i
invariant-loop-i g l = AreFilled g.R.Numbered.number_of l.rows l.slots.items l.first l.i

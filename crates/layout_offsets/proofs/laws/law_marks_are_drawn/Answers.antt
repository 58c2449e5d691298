use Rattle.layout_offsets.proofs.Totals.{marks_are_drawn}
use Rattle.layout_offsets.proofs.laws.law_marks_are_drawn.Goals as goal

pub returns : goal.returns
returns c = marks_are_drawn

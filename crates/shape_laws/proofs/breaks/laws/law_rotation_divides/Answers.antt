use Rattle.shape_laws.proofs.BreakLemmas.Stages.{turned_divide}
use Rattle.shape_laws.proofs.breaks.laws.law_rotation_divides.Goals as goal

pub returns : goal.returns
returns c = turned_divide

use Rattle.shape_breaks.proofs.Keeps.{tables_keep_marks}
use Rattle.shape_breaks.proofs.laws.law_tables_keep_marks.Goals as goal

pub returns : goal.returns
returns c = tables_keep_marks

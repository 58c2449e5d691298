use Rattle.shape_parts.proofs.StageLines.{in_line_keeps_parts_on_line}
use Rattle.shape_parts.proofs.line_laws.law_in_line_keeps_parts_on_line.Goals as goal

pub returns : goal.returns
returns c = in_line_keeps_parts_on_line

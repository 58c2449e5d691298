use Rattle.shape_parts.proofs.StageLines.{wanted_keep_parts_on_line}
use Rattle.shape_parts.proofs.line_laws.law_wanted_keep_parts_on_line.Goals as goal

pub returns : goal.returns
returns c = wanted_keep_parts_on_line

use Rattle.shape_parts.proofs.StageLines.{stages_keep_parts_on_line}
use Rattle.shape_parts.proofs.line_laws.law_stages_keep_parts_on_line.Goals as goal

pub returns : goal.returns
returns c = stages_keep_parts_on_line

use Rattle.shell_run.proofs.TextLines.{texts_have_lines}
use Rattle.shell_run.proofs.laws.law_texts_have_lines.Goals as goal

pub returns : goal.returns
returns c = texts_have_lines

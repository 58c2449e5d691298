use Rattle.std.proofs.Common.{◌+◌}
use Rattle.std.proofs.lemmas.List.{take_rest}
use Rattle.shell_run.proofs.TextLines.{line_before_line_feed}
use Rattle.shell_run.proofs.lines.next_line.Goals as goal

pub returns-in-Some-clause-line : goal.returns-in-Some-clause-line
returns-in-Some-clause-line c = rw (take_rest c.args.text.now (c.in-Some.end + 1)) (line_before_line_feed c.args.text.now c.in-Some.end c.in-Some.ensures)

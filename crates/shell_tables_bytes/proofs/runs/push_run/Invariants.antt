use Rattle.std.proofs.Common.{◌≡◌, ◌+◌, ◌-◌, ◌++◌}
use Rattle.shell_tables_bytes.specs.Records.{rows_of_run, run_rows}
use Rattle.shell_tables_bytes.proofs.runs.push_run.Given as goal

-- the rows so far, and those that are left
abbrev pub invariant-loop-index : goal.invariant-loop-index
invariant-loop-index l = l.rows.items ++ run_rows (l.first + l.index) (l.run.count - l.index) l.run.number ≡ l.initial.rows.items ++ rows_of_run l.run

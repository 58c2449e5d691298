use Rattle.std.proofs.Common.{◌≡◌, ◌++◌, drop}
use Rattle.std.specs.List.{flat_map}
use Rattle.shell_tables_bytes.specs.Records.{rows_of_run}
use Rattle.shell_tables_bytes.proofs.runs.rows_of_runs.Given as goal

-- the rows so far, and those of the runs that are left
abbrev pub invariant-loop-run : goal.invariant-loop-run
invariant-loop-run l = l.rows.items ++ flat_map rows_of_run (drop l.run-index l.runs) ≡ flat_map rows_of_run l.runs

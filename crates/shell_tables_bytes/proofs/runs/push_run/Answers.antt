use Rattle.std.proofs.Common.{◌+◌, ◌*◌, arith}
use Rattle.shell_tables_bytes.proofs.Pushes.{run_pushed}
use Rattle.shell_tables_bytes.proofs.runs.push_run.Goals as goal

pub loop-index-preserved : goal.loop-index-preserved
loop-index-preserved c =
    run_pushed (c.from.result * 65536 + c.from-2.result) c.args.run.count c.args.run.number c.loop-index.index c.loop-index.rows.items c.push.new.self.items _ _ _
    (omega arith) c.in_ok-push.ensures.items (omega arith) (omega arith) c.loop-index.invariant

use Rattle.std.proofs.Common.{rules, ◌≡◌, ◌≢◌, None, Err}
use Rattle.serde_json.specs.View.{items_view}
use Rattle.shell_json.specs.declared.fault.JsonFault.TheVariants.{OutOfMemory}
use Rattle.shell_json.specs.Rows.{rows_after}
use Rattle.shell_json.proofs.Rising.{rows_follow}
use Rattle.shell_json.proofs.Steps.{one_more, refused_here, all_read}
use Rattle.shell_json.proofs.rows.read_json_rows.Goals as goal

pub loop-value-preserved : goal.loop-value-preserved
loop-value-preserved g c =
    rw (c.in_ok-push.ensures.items, c.key.ensures)
    (one_more g.T.RowReader.may_follow g.T.RowReader.key_of (g.T.RowReader.means c.args.reader.now) c.args.values.now c.loop-value.before c.loop-value.value-index c.value-item.result c.loop-value.rows.items c.in_ok-row.row
    c.loop-value.invariant c.loop-value-test.true c.value-item.is c.in_ok-row.ensures.ok)

pub returns-in_err-row-clause-refused : goal.returns-in_err-row-clause-refused
returns-in_err-row-clause-refused g c =
    let refused : c.in_err-row.field-0.0 ≢ OutOfMemory → rows_after g.T.RowReader.may_follow g.T.RowReader.key_of (g.T.RowReader.means c.args.reader.now) None (items_view c.args.values.now) ≡ Err c.in_err-row.field-0.0 =
    λ n. refused_here g.T.RowReader.may_follow g.T.RowReader.key_of (g.T.RowReader.means c.args.reader.now) c.args.values.now c.loop-value.before c.loop-value.value-index c.value-item.result c.loop-value.rows.items c.in_err-row.field-0.0
    c.loop-value.invariant c.loop-value-test.true c.value-item.is (c.in_err-row.ensures.refused n) in
    search (rules, refused)

-- the rows are those of the list
pub returns-clause-ok : goal.returns-clause-ok
returns-clause-ok g c =
    all_read g.T.RowReader.may_follow g.T.RowReader.key_of (g.T.RowReader.means c.args.reader.now) c.args.values.now c.loop-value.before c.loop-value.value-index c.loop-value.rows.items c.loop-value.invariant c.loop-value-test.false

-- and follow one another as those do
pub returns-clause-follow : goal.returns-clause-follow
returns-clause-follow g c =
    rows_follow g.T.RowReader.may_follow g.T.RowReader.key_of (g.T.RowReader.means c.args.reader.now) None (items_view c.args.values.now) c.loop-value.rows.items (returns-clause-ok g c)

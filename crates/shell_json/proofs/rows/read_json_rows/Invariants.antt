use Rattle.std.proofs.Common.{◌≡◌, None, drop}
use Rattle.serde_json.specs.View.{items_view}
use Rattle.shell_json.specs.Rows.{rows_after, after}
use Rattle.shell_json.proofs.rows.read_json_rows.Given as goal

-- the rows so far, and those of what is left
abbrev pub invariant-loop-value : goal.invariant-loop-value
invariant-loop-value g l = rows_after g.T.RowReader.may_follow g.T.RowReader.key_of (g.T.RowReader.means l.reader) None (items_view l.values)
    ≡ after l.rows.items (rows_after g.T.RowReader.may_follow g.T.RowReader.key_of (g.T.RowReader.means l.reader) l.before (items_view (drop l.value-index l.values)))

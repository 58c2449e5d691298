use Rattle.std.proofs.Common.{◌≡◌, drop}
use Rattle.serde_json.specs.View.{items_view}
use Rattle.shell_face_json.specs.Lengths.{least_length_in_rows}
use Rattle.shell_face_json.proofs.lengths.least_length_in_rows.Given as goal

-- what is left, after the least so far, gives the least of all
abbrev pub invariant-loop-row : goal.invariant-loop-row
invariant-loop-row l = least_length_in_rows l.least (items_view (drop l.row-index l.rows)) ≡ least_length_in_rows l.limit (items_view l.rows)

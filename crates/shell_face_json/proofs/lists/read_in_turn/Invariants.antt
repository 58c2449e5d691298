use Rattle.std.proofs.Common.{◌≡◌, drop}
use Rattle.serde_json.specs.View.{items_view}
use Rattle.shell_face_json.specs.Lists.{rows_in_turn}
use Rattle.shell_json.specs.Rows.{after}
use Rattle.shell_face_json.proofs.lists.read_in_turn.Given as goal

-- the rows so far, and those of what is left
abbrev pub invariant-loop-value : goal.invariant-loop-value
invariant-loop-value g l = rows_in_turn (g.P.FromJson.font_value l.limit) (items_view l.values)
    ≡ after l.rows.items (rows_in_turn (g.P.FromJson.font_value l.limit) (items_view (drop l.value-index l.values)))

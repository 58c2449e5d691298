use Rattle.std.proofs.Common.{◌≡◌, drop}
use Rattle.serde_json.specs.View.{items_view}
use Rattle.shell_face_json.specs.Lists.{lookup_in_table, rows_in_turn}
use Rattle.shell_json.specs.Rows.{after}
use Rattle.shell_face_json.proofs.lookups.read_each.Given as goal

-- the lookups so far, and those of what is left
abbrev pub invariant-loop-value : goal.invariant-loop-value
invariant-loop-value g l = rows_in_turn (lookup_in_table (g.L.Lookup.fits l.lookup_count) (g.L.FromJson.font_value l.set_count)) (items_view l.values)
    ≡ after l.rows.items (rows_in_turn (lookup_in_table (g.L.Lookup.fits l.lookup_count) (g.L.FromJson.font_value l.set_count)) (items_view (drop l.value-index l.values)))

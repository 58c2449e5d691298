use Rattle.std.proofs.Common.{◌≡◌, ◌≤◌, ℕ, length}
use Rattle.json.specs.Json.{items, parse_map, value}
use Rattle.serde_json.specs.Data.{Items}
use Rattle.serde_json.specs.Read.{of_items, converted}
use Rattle.shell_json.specs.Rows.{after}
use Rattle.shell_face_json.specs.Lists.{rows_in_turn}
use Rattle.shell_face_json.proofs.text.rows.take_items.Given as goal

-- the items so far, which gave the values so far, and those of what is left
abbrev pub invariant-items : goal.invariant-items
invariant-items g l =
    (n : ℕ) × (length l.reader ≤ n) × (length l.reader ≤ length l.initial.reader) × (before : (Items → Items))
    × (converted of_items (items (value l.depth) (length l.initial.reader) l.initial.reader) ≡ parse_map before (converted of_items (items (value l.depth) n l.reader)))
    × ((ds : Items) → rows_in_turn (g.P.FromJson.font_value l.limit) (before ds) ≡ after l.items.items (rows_in_turn (g.P.FromJson.font_value l.limit) ds))

abbrev pub decreases-items : goal.decreases-items
decreases-items g l = length l.reader

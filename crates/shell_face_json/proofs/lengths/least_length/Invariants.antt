use Rattle.std.proofs.Common.{◌≡◌, drop}
use Rattle.serde_json.specs.View.{items_view}
use Rattle.shell_face_json.specs.Lengths.{least_length}
use Rattle.shell_face_json.proofs.lengths.least_length.Given as goal

-- what is left, after the least so far, gives the least of all
abbrev pub invariant-loop-value : goal.invariant-loop-value
invariant-loop-value l = least_length l.least (items_view (drop l.value-index l.values)) ≡ least_length l.limit (items_view l.values)

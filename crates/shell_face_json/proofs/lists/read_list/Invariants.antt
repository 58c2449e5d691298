use Rattle.std.proofs.Common.{take}
use Rattle.std.specs.Result.{result_map_both}
use Rattle.serde_json.specs.View.{items_view}
use Rattle.shell_face_json.specs.Lists.{items_of}
use Rattle.shell_face_json.proofs.Means.{Means}
use Rattle.shell_face_json.proofs.lists.read_list.Given as goal

-- the items so far
abbrev pub invariant-loop-value : goal.invariant-loop-value
invariant-loop-value g l = Means (items_of (g.P.FromJson.font_value l.limit) (items_view (take l.value-index l.values))) (result_map_both (λ v. v.items) (λ e. e) l.items)

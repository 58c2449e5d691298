use Rattle.std.proofs.Common.{◌<◌, length, arith}
use Rattle.std.specs.Result.{result_map_both}
use Rattle.shell_face_json.proofs.Means.{items_step}
use Rattle.shell_face_json.proofs.lists.read_list.Goals as goal

-- one item more
pub loop-value-preserved : goal.loop-value-preserved
loop-value-preserved g c =
    let inside : c.loop-value.value-index < length c.args.values.now = omega arith in
    items_step (g.P.FromJson.font_value c.args.limit) c.args.values.now c.loop-value.value-index c.value-item.result inside c.value-item.is
    (result_map_both (λ w. w.items) (λ e. e) c.loop-value.items) c.from_json.result c.with_item-items.result
    c.loop-value.invariant c.from_json.ensures.ok c.from_json.ensures.refused c.with_item-items.ensures.ok c.with_item-items.ensures.refused

use Rattle.std.proofs.Common.{option_map, ◌∙◌}
use Rattle.serde_json.specs.View.{view}
use Rattle.shell_face_json.proofs.OfText.Tables.{layout_read, layout_of_parts}
use Rattle.shell_face_json.proofs.text.table.read_layout.Goals as goal

pub returns : goal.returns
returns c =
    layout_read (option_map view c.args.scripts.now) (option_map view c.args.features.now) c.args.lookup_count c.in_ok-scripts.scripts.now c.in_ok-features.features.now c.in_ok-scripts-2.scripts.items c.in_ok-features-2.features
    c.in_ok-scripts.ensures c.in_ok-features.ensures c.in_ok-scripts-2.ensures.ok c.in_ok-features-2.ensures.ok
    ∙ layout_of_parts c.in_ok-scripts-2.scripts.items c.in_ok-features-2.features c.into_vec.result.items c.new.result c.into_vec.ensures c.new.ensures

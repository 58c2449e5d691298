use Rattle.std.proofs.Common.{sym, ◌∙◌}
use Rattle.buffer_common.specs.Direction.{is_backward}
use Rattle.shape_text.specs.Rotation.{mirrored_item}
use Rattle.shape_text.proofs.Rotated.{where_followed}
use Rattle.shape_text.proofs.rotation.mirror_chars.Goals as goal

pub returns-then-is_backward : goal.returns-then-is_backward
returns-then-is_backward c =
    let k = mirrored_item c.args.tables.now c.args.face.now c.args.rotation.rtlm_mask in
    where_followed k (is_backward c.args.rotation.target_direction) c.args.buffer.now c.mirror_text.new.buffer (sym c.is_backward.ensures ∙ c.if-is_backward.true) c.mirror_text.ensures

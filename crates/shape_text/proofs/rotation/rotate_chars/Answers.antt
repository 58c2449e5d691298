use Rattle.std.proofs.Common.{not, ◌&&◌}
use Rattle.buffer_common.specs.Direction.{is_backward, is_vertical}
use Rattle.shape_text.specs.Rotation.{mapped_where, mirrored_item, with_vertical_form}
use Rattle.shape_text.proofs.Turned.{both_followed}
use Rattle.shape_text.proofs.rotation.rotate_chars.Goals as goal

pub returns : goal.returns
returns c = both_followed (mapped_where (is_backward c.args.rotation.target_direction) (mirrored_item c.args.tables.now c.args.face.now c.args.rotation.rtlm_mask)) (mapped_where (is_vertical c.args.rotation.target_direction && not c.args.rotation.has_vert) (with_vertical_form c.args.tables.now c.args.face.now))
    c.args.buffer.now c.mirror_chars.new.buffer c.raise_chars.new.buffer c.mirror_chars.ensures c.raise_chars.ensures

use Rattle.std.proofs.Common.{not, rules, sym, ◌&&◌, ◌∙◌}
use Rattle.buffer_common.specs.Direction.{is_vertical}
use Rattle.shape_text.specs.Rotation.{with_vertical_form}
use Rattle.shape_text.proofs.Rotated.{where_followed}
use Rattle.shape_text.proofs.rotation.raise_chars.Goals as goal

pub returns-then-raises_chars : goal.returns-then-raises_chars
returns-then-raises_chars c =
    let k = with_vertical_form c.args.tables.now c.args.face.now in
    where_followed k (is_vertical c.args.rotation.target_direction && not c.args.rotation.has_vert) c.args.buffer.now c.map_glyphs.new.buffer (sym c.raises_chars.ensures ∙ c.if-raises_chars.true)
    (c.map_glyphs.ensures k (λ g h r. search rules))

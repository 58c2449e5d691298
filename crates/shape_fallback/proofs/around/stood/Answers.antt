use Rattle.std.proofs.Common.{rules, of_z, to_z, w32}
use Rattle.buffer_glyphs.specs.Items.{item_of}
use Rattle.shape_fallback.proofs.Standing.{stood_there}
use Rattle.shape_fallback.proofs.around.stood.Goals as goal

pub returns-clause-value : goal.returns-clause-value
returns-clause-value c =
    stood_there c.args.face.now c.args.direction (item_of c.args.glyph.now) c.args.position c.args.around (to_z w32 (of_z w32 c.gap.result)) c.extents_of.result c.position_mark-marked.result c.set_around.result
    c.set_around.ensures.value c.position_mark-marked.ensures (search rules) c.extents_of.ensures

use Rattle.std.proofs.Common.{◌≤◌, arith}
use Rattle.layout_gsub.proofs.Around.{glyph_in_place}
use Rattle.layout_gsub.proofs.reverse.replace_glyph_inplace.Goals as goal

pub returns : goal.returns
returns c =
    let small : c.args.glyph ≤ 65535 = omega arith in
    glyph_in_place c.args.ctx.now.face.now.gdef c.args.glyph c.substituted_props-props.result c.args.buffer.now c.put_glyph.new.buffer c.cur.result.now c.cur.ensures small c.substituted_props-props.ensures (c.put_glyph.ensures c.cur.result.now c.cur.ensures)

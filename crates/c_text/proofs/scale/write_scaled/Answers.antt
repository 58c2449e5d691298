use Rattle.std.proofs.Common.{arith, ◌<◌, length}
use Rattle.c_text.proofs.Scaling.{written_more}
use Rattle.c_text.proofs.scale.write_scaled.Goals as goal

pub loop-k-preserved : goal.loop-k-preserved
loop-k-preserved c =
    let inside : c.loop-k.k < length c.args.positions.now = omega (arith, c.min-count.ensures) in
    let room : c.loop-k.k < length c.args.room.now = omega (arith, c.min-count.ensures) in
    written_more c.args.by c.args.infos.now c.args.positions.now c.args.room.now c.loop-k.room c.loop-k.k c.loop-k.before c.loop-k.pens _ _ c.scaled_position.result c.pens_at-at.result c.pens_after-pens.result
    c.loop-k.invariant c.requires inside room c.pens_at-at.ensures c.scaled_position.ensures c.pens_after-pens.ensures

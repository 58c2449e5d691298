use Rattle.std.proofs.Common.{refl, arith}
use Rattle.std.proofs.lemmas.Fn.{says}
use Rattle.buffer_stages.proofs.Placing.{one_placed, next_written, all_placed}
use Rattle.buffer_stages.proofs.positions.map_positions.Goals as goal

pub loop-i-preserved : goal.loop-i-preserved
loop-i-preserved g c =
    let was = c.loop-i.invariant in (
      was.0,
      was.1,
      one_placed _ c.loop-i.i c.make-position.result c.pos_slice_mut-positions.result.now c.args.buffer.now c.loop-i.buffer c.pos_slice_mut-positions.ensures.value was.2,
      λ k same. next_written k _ c.loop-i.i _ _ c.make-position.result c.info_slice.result.now c.pos_slice_mut-positions.result.now c.pos_slice_mut-positions.result.now c.args.buffer.now c.loop-i.buffer c.info_slice.ensures c.pos_slice_mut-positions.ensures.value c.pos_slice_mut-positions.ensures.value was.2 was.0 was.1 (omega (arith, c.loop-i-test.true)) (same _ _ _ (says g.F.Fn c.make-position.ensures refl)) (was.3 k same),
    )

pub returns : goal.returns
returns g c = λ k same. let was = c.loop-i.invariant in all_placed k _ c.loop-i.i c.args.buffer.now c.loop-i.buffer c.requires.ready (omega (arith, c.loop-i-test.false)) was.2 was.0 was.1 (was.3 k same)

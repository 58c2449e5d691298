use Rattle.std.proofs.Common.{arith, length, refl, subst, sym, ◌+◌}
use Rattle.std.proofs.lemmas.Fn.{says}
use Rattle.buffer_stages.proofs.Placing.{AreOnlyPlaced, AreWritten, all_placed, next_changed, none_changed, one_placed}
use Rattle.buffer_stages.proofs.positions.change_positions.Goals as goal
use Rattle.buffer_stages.proofs.positions.change_positions.Goals.{in-Some, in_default}

pub loop-i-preserved : goal.loop-i-preserved
loop-i-preserved g c =
    let was = c.loop-i.invariant in
    let count = length c.info_slice-count.result.now in
    elim c.match-change.branch [
      | in-Some w ↦ (
        was.0,
        was.1,
        subst (λ b. AreOnlyPlaced count c.args.buffer.now b) (sym w.buffer-is) (one_placed count c.loop-i.i w.in-Some.position w.pos_slice_mut.result.now c.args.buffer.now c.loop-i.buffer w.pos_slice_mut.ensures.value was.2),
        λ k same. subst (λ b. AreWritten k (c.loop-i.i + 1) c.args.buffer.now b) (sym w.buffer-is)
            (next_changed k count c.loop-i.i _ _ w.in-Some.position c.change.result c.info_slice.result.now c.pos_slice.result.now w.pos_slice_mut.result.now c.args.buffer.now c.loop-i.buffer c.info_slice.ensures c.pos_slice.ensures.same w.pos_slice_mut.ensures.value was.2 was.0 was.1 (omega (arith, c.loop-i-test.true))
            w.in-Some.is (same _ _ _ (says g.F.Fn c.change.ensures refl)) (was.3 k same)),
      )
      | in_default w ↦ (
        was.0,
        was.1,
        subst (λ b. AreOnlyPlaced count c.args.buffer.now b) (sym w.buffer-is) was.2,
        λ k same. subst (λ b. AreWritten k (c.loop-i.i + 1) c.args.buffer.now b) (sym w.buffer-is)
            (none_changed k count c.loop-i.i _ _ c.change.result c.info_slice.result.now c.pos_slice.result.now c.args.buffer.now c.loop-i.buffer c.info_slice.ensures c.pos_slice.ensures.same was.2 was.0 was.1 (omega (arith, c.loop-i-test.true))
            w.in_default.is (same _ _ _ (says g.F.Fn c.change.ensures refl)) (was.3 k same)),
      )
    ]

pub returns : goal.returns
returns g c = λ k same. let was = c.loop-i.invariant in all_placed k _ c.loop-i.i c.args.buffer.now c.loop-i.buffer c.requires.ready (omega (arith, c.loop-i-test.false)) was.2 was.0 was.1 (was.3 k same)

use Rattle.std.proofs.Common.{arith, ◌+◌, ◌-◌, length}
use Rattle.script_arabic.proofs.LaidPositions.{one_placed}
use Rattle.script_arabic.proofs.Wrapped.{back}
use Rattle.script_arabic.proofs.tile_positions.positions_leftward.Goals as goal

pub loop-i-preserved : goal.loop-i-preserved
loop-i-preserved c =
    let n = length c.args.tiles.now in
    let i = c.loop-i.i in
    let lt = c.loop-i-test.true in
    one_placed c.args.positions.now c.args.tiles.now (n - (i + 1)) (n - i) _ _ _ _ c.loop-i.laid_positions.items c.add_positions.new.laid_positions.items (omega (arith, lt)) (omega (arith, lt)) c.requires c.loop-i.invariant
    (λ z e. let s = c.in_ok-x.ensures z e in (back c.in_ok-x.x _ s.0, s.1))

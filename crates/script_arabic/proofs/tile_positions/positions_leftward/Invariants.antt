use Rattle.std.proofs.Common.{◌-◌}
use Rattle.script_arabic.proofs.LaidPositions.{ArePlaced}
use Rattle.script_arabic.proofs.tile_positions.positions_leftward.Given as goal

-- so many at the end are placed
abbrev pub invariant-loop-i : goal.invariant-loop-i
invariant-loop-i l = ArePlaced l.positions l.tiles (l.count - l.i) l.x l.laid_positions.items

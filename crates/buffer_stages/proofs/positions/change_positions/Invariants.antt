use Rattle.std.proofs.Common.{◌≡◌, length}
use Rattle.buffer_glyphs.specs.Items.{Item, Position}
use Rattle.buffer_stages.specs.PositionMaps.{ChangesPositions}
use Rattle.buffer_core.specs.Sides.{all_glyphs}
use Rattle.buffer_stages.proofs.Placing.{AreOnlyPlaced, AreWritten}
use Rattle.buffer_stages.proofs.positions.change_positions.Given as goal

abbrev pub invariant-loop-i : goal.invariant-loop-i
invariant-loop-i g l =
    (length l.fn.buffer.positions ≡ l.count)
    × (length (all_glyphs l.fn.buffer) ≡ l.count)
    × AreOnlyPlaced l.count l.fn.buffer l.buffer
    × ((k : Item → Position → Position) → ChangesPositions g.F.Fn l.change k → AreWritten k l.i l.fn.buffer l.buffer)

use Rattle.std.proofs.Common.{ℤ, ◌≡◌, ◌++◌}
use Rattle.std.specs.Prelude.{reverse}
use Rattle.std.specs.Int.{int_wrap, w32}
use Rattle.script_arabic.specs.TilePositions.{copy_positions, copy_begin}
use Rattle.script_arabic.proofs.tile_positions.add_tile_positions.Given as goal

-- the tile and that many copies are to the left of `at`
abbrev pub invariant-loop : goal.invariant-loop
invariant-loop l = (at : ℤ) → l.fn.x ≡ int_wrap w32 at → (l.begin ≡ int_wrap w32 (copy_begin l.tile at l.counter)) × (l.laid_positions.items ≡ l.fn.laid_positions.items ++ reverse (copy_positions l.fn.position l.tile at l.counter))

use Rattle.std.proofs.Common.{take}
use Rattle.std.specs.Prelude.{All}
use Rattle.cell_grid.proofs.Covered.{HasNot}
use Rattle.cell_grid.proofs.grid.CellGrid.run_at.Given as goal

-- none of the runs so far has the cell
abbrev pub invariant-loop-run : goal.invariant-loop-run
invariant-loop-run l = All (HasNot l.cell) (take l.run-index l.run-items)

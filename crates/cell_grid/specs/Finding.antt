-- Runs by their cells.
use Rattle.std.specs.Prelude.{ℕ, ◌≤◌, min, max, Bool, nat_lt, Option, Some, None, Contains}
use Rattle.kuspveli.specs.buffer_parts.Slices.{IsIn}
use Rattle.cell_grid.specs.declared.cells.CellRun.{CellRun}
use Rattle.cell_grid.specs.Grids.{Grid, cell_range}

-- the run that has a cell; none where the line ends before it
abbrev pub IsRunAt : Grid → ℕ → Option CellRun → Type 0
IsRunAt g cell None = g.width ≤ cell
IsRunAt g cell (Some r) = Contains g.runs r × IsIn (cell_range r) cell

-- whether one of the cells from one to another is a run's
abbrev pub has_cell_between : ℕ → ℕ → CellRun → Bool
has_cell_between from to r = nat_lt (max from r.first_cell) (min to r.end_cell)

-- What holds of the cells of a line.
use Rattle.std.specs.Prelude.{ℕ, ◌≡◌, ◌<◌, List, Contains}
use Rattle.kuspveli.specs.buffer_parts.Slices.{IsIn}
use Rattle.cell_grid.specs.declared.cells.CellRun.{CellRun}
use Rattle.cell_grid.specs.Grids.{Grid, IsGrid, cell_range}

-- one run alone has a cell
pub record IsInOneRun (rs : List CellRun) (cell : ℕ) : Type 0 where
  pub run : CellRun
  pub is : Contains rs run
  pub has : IsIn (cell_range run) cell
  pub alone : (r : CellRun) → Contains rs r → IsIn (cell_range r) cell → r ≡ run

-- law: each cell of a line is in exactly one run
abbrev pub CellsAreInOneRun : Type 0
CellsAreInOneRun = (g : Grid) (cell : ℕ) → IsGrid g → cell < g.width → IsInOneRun g.runs cell

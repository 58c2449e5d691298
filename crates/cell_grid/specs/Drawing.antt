-- What is drawn of a line, and what is drawn again after an edit.
use Rattle.std.specs.Prelude.{ℕ, ◌≡◌, ◌≢◌, ◌≤◌, ◌-◌, max, if◌then◌else◌, List, length, map, reverse, slice_range, take}
use Rattle.kuspveli.specs.buffer_common.Direction.{is_backward}
use Rattle.kuspveli.specs.buffer_common.declared.direction.Direction.{Direction}
use Rattle.cell_grid.specs.declared.cells.CellGlyph.{CellGlyph}
use Rattle.cell_grid.specs.declared.cells.CellRange.{CellRange}
use Rattle.cell_grid.specs.declared.cells.CellRun.{CellRun}
use Rattle.cell_grid.specs.Grids.{Grid, end_of_runs}

-- what is drawn of a run: glyphs, from a first cell up to an end
pub record RunPicture : Type 0 where
  pub first_cell : ℕ
  pub end_cell : ℕ
  pub glyphs : List CellGlyph

-- the picture of a run of a line with these glyphs
abbrev pub picture : List CellGlyph → CellRun → RunPicture
picture gs r = record { first_cell = r.first_cell; end_cell = r.end_cell; glyphs = slice_range gs r.first_glyph r.end_glyph }

-- the pictures of the runs of a line
abbrev pub pictures : Grid → List RunPicture
pictures g = map (picture g.glyphs) g.runs

-- two lists begin with n items that are the same, and with no more
pub record ShareFront {X : Type 0} (xs ys : List X) (n : ℕ) : Type 0 where
  pub first : n ≤ length xs
  pub second : n ≤ length ys
  pub same : take n xs ≡ take n ys
  pub most : (m : ℕ) → m ≤ length xs → m ≤ length ys → take m xs ≡ take m ys → m ≤ n

-- some cells end before the runs at the end that both of two lines draw alike
pub record IsBeforeShared (old new : Grid) (c : CellRange) : Type 0 where
  pub back : ℕ
  pub shared : ShareFront (reverse (pictures old)) (reverse (pictures new)) back
  pub end : c.end ≡ max c.start (end_of_runs (take (length new.runs - back) new.runs))

-- the cells to draw again where a line became another one
pub record IsToDraw (old new : Grid) (c : CellRange) : Type 0 where
  -- they begin after the runs at the beginning that both draw alike
  pub front : ℕ
  pub shared : ShareFront (pictures old) (pictures new) front
  pub start : c.start ≡ end_of_runs (take front new.runs)
  -- where one line is longer, they end with it
  pub longer : old.width ≢ new.width → c.end ≡ max old.width new.width
  pub same : old.width ≡ new.width → IsBeforeShared old new c

-- the columns that cells have on a screen, by its number of columns: a left-to-right line begins at the left edge, a right-to-left one at the right edge
abbrev pub columns_of : Direction → ℕ → CellRange → CellRange
columns_of d columns c = if is_backward d then record { start = columns - c.end; end = columns - c.start } else c

-- Each cell of a line is in exactly one run.
use Rattle.std.proofs.Common.{ℕ, suc, ◌≡◌, ◌≤◌, ◌<◌, List, [], ◌∷◌, map, arith, inl, inr, refl, sym, subst}
use Rattle.std.specs.Prelude.{Contains}
use Rattle.std.proofs.lemmas.Bool.{cases_lt}
use Rattle.kuspveli.specs.buffer_parts.Slices.{AreJoined, IsIn}
use Rattle.cell_grid.specs.declared.cells.CellRun.{CellRun}
use Rattle.cell_grid.specs.Grids.{AreCells, cell_range}
use Rattle.cell_grid.specs.Laws.{CellsAreInOneRun, IsInOneRun}
use Rattle.cell_grid.proofs.Glyphs.{alone, contains_cases, inside}

-- with a run before them that doesn't have the cell
later_run : (cell : ℕ) (r : CellRun) (rs : List CellRun) → ¬ IsIn (cell_range r) cell → IsInOneRun rs cell → IsInOneRun (r ∷ rs) cell
later_run cell r rs other one = record { run = one.run; is = (suc one.is.0, let lt = one.is.1 in omega (arith, lt), one.is.2); has = one.has; alone = mine }
  where
    mine : (q : CellRun) → Contains (r ∷ rs) q → IsIn (cell_range q) cell → q ≡ one.run
    mine q among has = elim (contains_cases r rs q among) [
      | inl same ↦ let P : CellRun → Type 0 = λ x. IsIn (cell_range x) cell in absurd (other (subst P (sym same) has))
      | inr later ↦ one.alone q later has
    ]

-- the first one that has the cell
first_run : (cell from to : ℕ) (r : CellRun) (rs : List CellRun) → r.end_cell ≤ from → AreJoined from to (map cell_range rs) → IsIn (cell_range r) cell → IsInOneRun (r ∷ rs) cell
first_run cell from to r rs before joined has = record { run = r; is = (0, omega arith, refl); has = has; alone = mine }
  where
    mine : (q : CellRun) → Contains (r ∷ rs) q → IsIn (cell_range q) cell → q ≡ r
    mine q among own = elim (contains_cases r rs q among) [
      | inl same ↦ sym same
      | inr later ↦ let low = (inside cell_range from to rs q joined later).0 in let at = own.0 in let high = has.1 in absurd (omega (arith, before, low, at, high))
    ]

in_joined : (cell from to : ℕ) (rs : List CellRun) → AreJoined from to (map cell_range rs) → from ≤ cell → cell < to → IsInOneRun rs cell
in_joined cell from to [] joined low high = absurd (omega (arith, joined, low, high))
in_joined cell from to (r ∷ rs) joined low high = elim (cases_lt cell r.end_cell) [
  | inl within ↦ let first = joined.0 in first_run cell r.end_cell to r rs (omega arith) joined.2 (omega (arith, first, low), within)
  | inr past ↦ later_run cell r rs (λ is. let under = is.1 in omega (arith, under, past)) (in_joined cell r.end_cell to rs joined.2 past high)
]

in_cells : (cell width : ℕ) (rs : List CellRun) → AreCells width rs → cell < width → IsInOneRun rs cell
in_cells cell width [] are within = absurd (omega (arith, are, within))
in_cells cell width (r ∷ rs) are within = elim (cases_lt cell r.end_cell) [
  | inl before ↦ let first = are.0 in first_run cell r.end_cell width r rs (omega arith) are.1 (omega (arith, first), before)
  | inr past ↦ later_run cell r rs (λ is. let under = is.1 in omega (arith, under, past)) (in_joined cell r.end_cell width rs are.1 past within)
]

pub cells_are_in_one_run : CellsAreInOneRun
cells_are_in_one_run g cell grid within = in_cells cell g.width g.runs grid within

use Rattle.std.proofs.Common.{◌≤◌, arith, subst, sym}
use Rattle.cell_grid.specs.Grids.{AreCells, Grid}
use Rattle.cell_grid.specs.declared.cells.CellRun.{CellRun}
use Rattle.cell_grid.proofs.Covered.{none_more, past_end}
use Rattle.cell_grid.proofs.grid.CellGrid.run_at.Goals as goal
use Rattle.cell_grid.proofs.grid.CellGrid.run_at.Goals.{else-run-cell-via-then-run-cell+else-cell-run, else-run-cell-via-else-run-cell}

abbrev no_run : CellRun
no_run = record { start = 0; end = 0; first_cell = 0; end_cell = 0; first_glyph = 0; end_glyph = 0 }

pub loop-run-preserved : goal.loop-run-preserved
loop-run-preserved c = elim c.else-run-cell.branch [
  | else-run-cell-via-then-run-cell+else-cell-run w ↦ none_more c.args.cell c.deref-run-items.result.now c.loop-run.run-index no_run c.loop-run-test.true c.loop-run.invariant (λ is. let under = is.1 in let past = w.if-cell-run.false in omega (arith, under, past))
  | else-run-cell-via-else-run-cell w ↦ none_more c.args.cell c.deref-run-items.result.now c.loop-run.run-index no_run c.loop-run-test.true c.loop-run.invariant (λ is. let over = is.0 in let before = w.if-run-cell.false in omega (arith, over, before))
]

pub returns : goal.returns
returns c =
    let P : Grid → Type 0 = λ g. g.width ≤ c.args.cell in
    subst P c.self.view_is (past_end c.self.inside.width c.args.cell c.deref-run-items.result.now c.loop-run.run-index (subst (AreCells c.self.inside.width) (sym c.deref-run-items.ensures.value) c.self.invariant) c.loop-run-test.false c.loop-run.invariant)

use Rattle.std.proofs.Common.{ap, ◌∙◌}
use Rattle.kuspveli.specs.buffer_common.Direction.{is_backward}
use Rattle.cell_grid.specs.Grids.{end_of_runs}
use Rattle.cell_grid.specs.Walk.{runs_of}
use Rattle.cell_grid.proofs.Made.{made_grid}
use Rattle.cell_grid.proofs.grid.cell_grid.Goals as goal

pub invariant_of-result : goal.invariant_of-result
invariant_of-result c =
    let runs = c.in_ok-runs.ensures ∙ ap (λ b. runs_of b c.args.text.now c.deref.result.now) c.is_backward.ensures ∙ ap (runs_of (is_backward c.args.direction) c.args.text.now) c.deref.ensures.value in
    let end = c.end_of_runs-width.ensures ∙ ap end_of_runs c.deref-2.ensures.value in
    (made_grid (is_backward c.args.direction) c.args.glyphs.now c.args.text.now c.in_ok-slices.slices.items c.in_ok-runs.runs.items c.in_ok-drawn.drawn.items c.end_of_runs-width.result c.in_ok-slices.ensures.slices runs c.in_ok-drawn.ensures end).grid

pub returns-clause-grid : goal.returns-clause-grid
returns-clause-grid c =
    let runs = c.in_ok-runs.ensures ∙ ap (λ b. runs_of b c.args.text.now c.deref.result.now) c.is_backward.ensures ∙ ap (runs_of (is_backward c.args.direction) c.args.text.now) c.deref.ensures.value in
    let end = c.end_of_runs-width.ensures ∙ ap end_of_runs c.deref-2.ensures.value in
    made_grid (is_backward c.args.direction) c.args.glyphs.now c.args.text.now c.in_ok-slices.slices.items c.in_ok-runs.runs.items c.in_ok-drawn.drawn.items c.end_of_runs-width.result c.in_ok-slices.ensures.slices runs c.in_ok-drawn.ensures end

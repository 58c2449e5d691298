use Rattle.cell_grid.proofs.Graphemes.{runs_begin_at_graphemes}
use Rattle.cell_grid.proofs.laws.law_runs_begin_at_graphemes.Goals as goal

pub returns : goal.returns
returns c = runs_begin_at_graphemes c.law_pushed_clusters_are_graphemes.ensures

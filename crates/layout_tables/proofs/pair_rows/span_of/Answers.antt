use Rattle.std.proofs.Common.{ap, ◌∙◌}
use Rattle.layout_tables.specs.PairRows.{rows_of_first}
use Rattle.layout_tables.proofs.PairRuns.{rows_between, starts_ordered}
use Rattle.layout_tables.proofs.pair_rows.span_of.Goals as goal

pub returns-clause-ordered : goal.returns-clause-ordered
returns-clause-ordered c = starts_ordered c.from-first.result c.start_of-start.result c.start_of-end.result c.args.rows.now c.start_of-start.ensures c.start_of-end.ensures

pub returns-clause-rows : goal.returns-clause-rows
returns-clause-rows c =
    rows_between c.from-first.result c.start_of-start.result c.start_of-end.result c.args.rows.now c.start_of-start.ensures c.start_of-end.ensures
    ∙ ap (λ first. rows_of_first first c.args.rows.now) c.from-first.ensures

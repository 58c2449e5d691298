use Rattle.std.proofs.Common.{ap, sym, ◌∙◌}
use Rattle.buffer_rows.specs.Keys.{numbers_rise}
use Rattle.layout_tables.specs.declared.pair.PairRow.{PairRow}
use Rattle.layout_tables.specs.PairRows.{rows_of_first}
use Rattle.layout_tables.proofs.PairRuns.{seconds_rise}
use Rattle.layout_tables.proofs.pair_rows.PairRows.rows_of.Goals as goal
use Rattle.layout_tables.proofs.pair_rows.PairRows.rows_of.Goals.{then-first-self-via-then-first-self, then-first-self-via-else-first-self+then-first-self-2}

pub returns-then-first-self-clause-of : goal.returns-then-first-self-clause-of
returns-then-first-self-clause-of c = elim c.then-first-self.branch [
  | then-first-self-via-then-first-self w ↦ sym (c.self.invariant.within.below c.args.first w.if-first-self.true) ∙ ap (rows_of_first c.args.first) c.self.view_is
  | then-first-self-via-else-first-self+then-first-self-2 w ↦ sym (c.self.invariant.within.above c.args.first w.if-first-self-2.true) ∙ ap (rows_of_first c.args.first) c.self.view_is
]

pub returns-clause-rising : goal.returns-clause-rising
returns-clause-rising c =
    ap (numbers_rise (λ (r : PairRow). r.second)) c.span_of-start.ensures.rows ∙ seconds_rise c.args.first c.rising_rows-rows.result.now c.rising_rows-rows.ensures.rising

use Rattle.std.proofs.Common.{rules, of_calls, ltb, arith}
use Rattle.std.proofs.lemmas.Bool.{ltb-true, ltb-false}
use Rattle.std.proofs.lemmas.Fn.{always_returns_same}
use Rattle.std.proofs.lemmas.List.Sorted.{IsPartitionedBy-ltb}
use Rattle.layout_tables.specs.declared.pair.PairRow.{PairRow}
use Rattle.layout_tables.proofs.PairRuns.{firsts_rise}
use Rattle.layout_tables.proofs.pair_rows.first_from.Goals as goal

pub returns : goal.returns
returns c =
    let point = c.partition_point.ensures.partitioned (λ (r : PairRow). ltb r.first c.args.glyph) (always_returns_same _ _ _ (λ a r f k. search (rules, of_calls))) (IsPartitionedBy-ltb (λ (r : PairRow). r.first) c.args.rows.now c.args.glyph (firsts_rise c.args.rows.now c.requires)) in
    record {
      within = c.partition_point.ensures.bound;
      below = λ i d lt. ltb-true _ _ (point.0 i d (omega arith) lt);
      rest = λ i d le lt. ltb-false _ _ (point.1 i d le lt);
    }

use Rattle.std.proofs.Common.{◌≡◌, ◌++◌, List, [], ◌∷◌, ap, ◌∙◌, rules}
use Rattle.font_records.proofs.Turns.{within_more, rest_done, all_done}
use Rattle.font_positioning.specs.Pairs.{pair_size, pair_values}
use Rattle.layout_tables.specs.declared.pair.PairValues.{PairValues}
use Rattle.layout_tables.specs.declared.pair.Class1Record.{Class1Record}
use Rattle.font_positioning.proofs.classes.read_class2_records.Goals as goal

pub pair_values-requires : goal.pair_values-requires
pair_values-requires c =
    (within_more (pair_size c.args.format.first c.args.format.second) c.loop-index.at c.args.count c.loop-index._index _ c.loop-index-test.true c.loop-index.invariant.within).0

pub loop-index-preserved : goal.loop-index-preserved
loop-index-preserved c =
    let size = pair_size c.args.format.first c.args.format.second in
    let read = pair_values c.args.format.first c.args.format.second c.args.table.now in
    let pushed : c.push.new.self.items ≡ c.loop-index.records.items ++ c.pair_values.result ∷ [] = search rules in
    rw (c.pair_size-size.ensures.value, pushed) (record {
      within = (within_more size c.loop-index.at c.args.count c.loop-index._index _ c.loop-index-test.true c.loop-index.invariant.within).1;
      all = rest_done read size c.loop-index.at c.args.count c.loop-index._index c.loop-index.records.items _ c.pair_values.result c.loop-index-test.true c.pair_values.ensures c.loop-index.invariant.all;
    })

pub returns : goal.returns
returns c =
    let size = pair_size c.args.format.first c.args.format.second in
    let read = pair_values c.args.format.first c.args.format.second c.args.table.now in
    let all = all_done read size c.loop-index.at c.args.count c.loop-index._index c.loop-index.records.items _ c.loop-index-test.false c.loop-index.invariant.all in
    let make : List PairValues → Class1Record = λ rs. record { class2_records = rs } in
    ap make (c.new.ensures ∙ all)

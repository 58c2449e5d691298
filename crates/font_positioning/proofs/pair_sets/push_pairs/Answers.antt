use Rattle.std.proofs.Common.{◌≡◌, ◌+◌, ◌++◌, [], ◌∷◌, rules}
use Rattle.font_records.proofs.Turns.{within_more, rest_done, all_done}
use Rattle.font_positioning.specs.Pairs.{pair_size, pair_row}
use Rattle.font_positioning.proofs.PairSets.{order_step, order_end}
use Rattle.font_positioning.proofs.pair_sets.push_pairs.Goals as goal

pub pair_row-row-requires : goal.pair_row-row-requires
pair_row-row-requires c =
    (within_more (2 + pair_size c.args.format.first c.args.format.second) c.loop-index.at c.args.count c.loop-index._index _ c.loop-index-test.true c.loop-index.invariant.within).0

pub loop-index-preserved : goal.loop-index-preserved
loop-index-preserved c =
    let width = 2 + pair_size c.args.format.first c.args.format.second in
    let read = pair_row c.args.format.first c.args.format.second c.args.table.now c.args.first in
    let pushed : c.push.new.self.items ≡ c.loop-index.rows.items ++ c.pair_row-row.result ∷ [] = search rules in
    rw (c.pair_size-width.ensures.value, pushed, c.is_next-in_order.ensures) (record {
      within = (within_more width c.loop-index.at c.args.count c.loop-index._index _ c.loop-index-test.true c.loop-index.invariant.within).1;
      all = rest_done read width c.loop-index.at c.args.count c.loop-index._index c.loop-index.rows.items _ c.pair_row-row.result c.loop-index-test.true c.pair_row-row.ensures c.loop-index.invariant.all;
      order = order_step read width c.loop-index.at c.args.count c.loop-index._index c.loop-index.least c.loop-index.in_order _ c.pair_row-row.result c.loop-index-test.true c.pair_row-row.ensures c.loop-index.invariant.order;
    })

pub returns-clause-order : goal.returns-clause-order
returns-clause-order c =
    let width = 2 + pair_size c.args.format.first c.args.format.second in
    let read = pair_row c.args.format.first c.args.format.second c.args.table.now c.args.first in
    order_end read width c.loop-index.at c.args.count c.loop-index._index c.loop-index.least c.loop-index.in_order _ c.loop-index-test.false c.loop-index.invariant.order

pub returns-clause-rows : goal.returns-clause-rows
returns-clause-rows c =
    let width = 2 + pair_size c.args.format.first c.args.format.second in
    let read = pair_row c.args.format.first c.args.format.second c.args.table.now c.args.first in
    all_done read width c.loop-index.at c.args.count c.loop-index._index c.loop-index.rows.items _ c.loop-index-test.false c.loop-index.invariant.all

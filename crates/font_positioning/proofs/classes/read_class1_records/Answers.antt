use Rattle.std.proofs.Common.{◌≡◌, ◌<◌, ◌≤◌, ◌*◌, ◌++◌, [], ◌∷◌, arith, rules}
use Rattle.font_records.proofs.Turns.{within_more, rest_done, all_done}
use Rattle.font_positioning.specs.Pairs.{pair_size}
use Rattle.font_positioning.specs.ClassPairs.{class2_records}
use Rattle.font_positioning.proofs.classes.read_class1_records.Goals as goal

pub read_class2_records-requires : goal.read_class2_records-requires
read_class2_records-requires c =
    let inside : c.loop-index._index < c.args.count1 = omega arith in
    let within = (within_more (pair_size c.args.format.first c.args.format.second * c.args.count2) c.loop-index.at c.args.count1 c.loop-index._index _ inside c.loop-index.invariant.within).0 in
    rw c.from-in-loop-index.ensures within

pub loop-index-preserved : goal.loop-index-preserved
loop-index-preserved c =
    let size = pair_size c.args.format.first c.args.format.second * c.args.count2 in
    let read = class2_records c.args.format.first c.args.format.second c.args.table.now c.args.count2 in
    let inside : c.loop-index._index < c.args.count1 = omega arith in
    let is : c.in_ok-record.record ≡ read c.loop-index.at = rw c.from-in-loop-index.ensures at c.in_ok-record.ensures in
    let pushed : c.push.new.self.items ≡ c.loop-index.records.items ++ c.in_ok-record.record ∷ [] = search rules in
    rw (c.row_size-size.ensures.value, pushed) (record {
      within = (within_more size c.loop-index.at c.args.count1 c.loop-index._index _ inside c.loop-index.invariant.within).1;
      all = rest_done read size c.loop-index.at c.args.count1 c.loop-index._index c.loop-index.records.items _ c.in_ok-record.record inside is c.loop-index.invariant.all;
    })

pub returns : goal.returns
returns c =
    let size = pair_size c.args.format.first c.args.format.second * c.args.count2 in
    let read = class2_records c.args.format.first c.args.format.second c.args.table.now c.args.count2 in
    let past : c.args.count1 ≤ c.loop-index._index = omega arith in
    all_done read size c.loop-index.at c.args.count1 c.loop-index._index c.loop-index.records.items _ past c.loop-index.invariant.all

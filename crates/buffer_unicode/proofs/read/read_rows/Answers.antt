use Rattle.std.proofs.Common.{◌≡◌, ◌∙◌, [], drop, map, sym, arith}
use Rattle.std.proofs.lemmas.List.{drop_all, append-nil}
use Rattle.buffer_unicode.proofs.Faults.{rises_without_fault}
use Rattle.buffer_unicode.proofs.Steps.{one_more, no_fault}
use Rattle.buffer_unicode.proofs.read.read_rows.Goals as goal

pub returns-clause-rising : goal.returns-clause-rising
returns-clause-rising g c =
    let done : drop c.loop-numbers.numbers-index c.args.rows.now ≡ [] = drop_all c.loop-numbers.numbers-index c.args.rows.now (omega arith) in
    let faults = rw done at c.loop-numbers.invariant.faults in
    let records = rw (done, append-nil) at c.loop-numbers.invariant.records in
    rises_without_fault g.R.Row.is_in_range g.R.DoublyKeyed.high g.R.DoublyKeyed.low (map g.R.Row.of_numbers c.args.rows.now) c.loop-numbers.records.items (sym faults) records

pub loop-numbers-preserved : goal.loop-numbers-preserved
loop-numbers-preserved g c = record {
  records = rw c.in_ok-push.ensures.items (one_more g.R.Row.of_numbers g.R.Row.is_in_range g.R.DoublyKeyed.high g.R.DoublyKeyed.low c.args.rows.now c.loop-numbers.numbers-index c.numbers-item.result c.in-Some.row c.loop-numbers-test.true c.numbers-item.is c.in-Some.ensures c.loop-numbers.records.items c.loop-numbers.invariant.records);
  faults = no_fault g.R.Row.of_numbers g.R.Row.is_in_range g.R.DoublyKeyed.high g.R.DoublyKeyed.low c.args.rows.now c.loop-numbers.numbers-index c.numbers-item.result c.in-Some.row c.loop-numbers-test.true c.numbers-item.is c.in-Some.ensures c.loop-numbers.before _ c.loop-numbers.invariant.faults (sym c.follows.ensures ∙ c.if-not-follows.false);
}

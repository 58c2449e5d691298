use Rattle.std.proofs.Common.{◌≡◌, ◌≢◌, ℕ, ◌+◌, ◌-◌, ◌++◌, [], ◌∷◌, Ok, Err, refl, ap, sym, ◌∙◌, arith, rules}
use Rattle.std.proofs.lemmas.List.{append-nil}
use Rattle.std.specs.Option.{option_to_list}
use Rattle.font_bytes.specs.declared.fault.TableFault.TheVariants.{OutOfMemory}
use Rattle.font_bytes.specs.Records.{records}
use Rattle.font_common.specs.Offsets.{after}
use Rattle.font_records.specs.Turns.{in_turn, if_any, array_at}
use Rattle.font_records.proofs.Turns.{turn_done, turn_refused, any_done, any_refused, offsets_more, offsets_end, within_more}
use Rattle.font_records.proofs.array.read_array.Goals as goal

pub read_item-requires-clause-within : goal.read_item-requires-clause-within
read_item-requires-clause-within g c =
    (within_more (g.R.RecordReader.width_of c.args.reader.now) c.loop-index.at c.args.count c.loop-index._index _ c.loop-index-test.true c.loop-index.invariant.within).0

pub loop-index-preserved : goal.loop-index-preserved
loop-index-preserved g c =
    let width = g.R.RecordReader.width_of c.args.reader.now in
    let item = g.R.RecordReader.item_at c.args.reader.now c.args.table.now in
    let read = λ (r : ℕ) (o : ℕ). if_any (item r o) in
    let items = c.loop-index.items.items in
    let room = c.loop-index.room.left in
    let next = records (λ (o : ℕ). o) width (c.loop-index.at + width) (c.args.count - (c.loop-index._index + 1)) in
    let more = offsets_more width c.loop-index.at c.args.count c.loop-index._index c.loop-index-test.true in
    let any = any_done (item room c.loop-index.at) c.in_ok-item.item c.read_item.new.room.left c.in_ok-item.ensures.ok in
    let done = turn_done read items room c.read_item.new.room.left c.loop-index.at next (option_to_list c.in_ok-item.item) any in
    let pushed : c.push_some.new.items.items ≡ items ++ option_to_list c.in_ok-item.item = search rules in
    rw (c.width-width.ensures, pushed) (record {
      within = (within_more width c.loop-index.at c.args.count c.loop-index._index _ c.loop-index-test.true c.loop-index.invariant.within).1;
      all = c.loop-index.invariant.all ∙ (ap (λ os. after items (in_turn read room os)) more ∙ done);
    })

pub returns-clause-ok : goal.returns-clause-ok
returns-clause-ok g c =
    let width = g.R.RecordReader.width_of c.args.reader.now in
    let item = g.R.RecordReader.item_at c.args.reader.now c.args.table.now in
    let read = λ (r : ℕ) (o : ℕ). if_any (item r o) in
    let items = c.loop-index.items.items in
    let room = c.loop-index.room.left in
    let end = offsets_end width c.loop-index.at c.args.count c.loop-index._index c.loop-index-test.false in
    c.loop-index.invariant.all ∙ (ap (λ os. after items (in_turn read room os)) end ∙ ap (λ xs. Ok (xs, room)) (append-nil items))

pub returns-in_err-item-clause-refused : goal.returns-in_err-item-clause-refused
returns-in_err-item-clause-refused g c =
    let width = g.R.RecordReader.width_of c.args.reader.now in
    let item = g.R.RecordReader.item_at c.args.reader.now c.args.table.now in
    let read = λ (r : ℕ) (o : ℕ). if_any (item r o) in
    let items = c.loop-index.items.items in
    let room = c.loop-index.room.left in
    let e = c.in_err-item.field-0.0 in
    let next = records (λ (o : ℕ). o) width (c.loop-index.at + width) (c.args.count - (c.loop-index._index + 1)) in
    let more = offsets_more width c.loop-index.at c.args.count c.loop-index._index c.loop-index-test.true in
    let refused : e ≢ OutOfMemory → array_at item width c.args.at c.args.count c.args.room.now.left ≡ Err e =
    λ n. c.loop-index.invariant.all ∙ (ap (λ os. after items (in_turn read room os)) more ∙ turn_refused read items room c.loop-index.at next e (any_refused (item room c.loop-index.at) e (c.in_err-item.ensures.refused n))) in
    search (rules, refused)

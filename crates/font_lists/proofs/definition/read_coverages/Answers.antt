use Rattle.std.proofs.Common.{◌≡◌, ℕ, ◌+◌, ◌*◌, ◌-◌, ◌++◌, [], ◌∷◌, ap, ◌∙◌, arith, rules}
use Rattle.std.specs.Prelude.{Ok}
use Rattle.std.proofs.lemmas.List.{append-nil}
use Rattle.font_bytes.specs.Words.{long}
use Rattle.font_bytes.specs.Records.{records}
use Rattle.font_common.specs.Coverage.{coverage_at}
use Rattle.font_common.specs.Offsets.{after, tables_in, value_at_offset}
use Rattle.font_bytes.proofs.Recorded.{records_more, records_end}
use Rattle.font_common.proofs.Tables.{table_done}
use Rattle.font_lists.proofs.definition.read_coverages.Goals as goal

pub loop-index-preserved : goal.loop-index-preserved
loop-index-preserved c =
    let bytes = c.args.table.now in
    let read = λ (r : ℕ) (o : ℕ). value_at_offset [] coverage_at r bytes c.args.base o in
    let done = c.loop-index.coverages.items in
    let room = c.loop-index.room.left in
    let index = c.loop-index.index in
    let next = records (long bytes) 4 (c.args.at + 4 * (index + 1)) (c.args.count - (index + 1)) in
    let more = records_more (long bytes) 4 c.args.at c.args.count index (omega arith) in
    let offset : c.long-offset.result ≡ long bytes (c.args.at + 4 * index) = c.long-offset.ensures in
    let value = rw offset at c.in_ok-coverage.ensures.ok in
    let step = table_done read done room c.read_at_offset.new.room.left (long bytes (c.args.at + 4 * index)) next c.in_ok-coverage.coverage value in
    let pushed : c.push.new.self.items ≡ done ++ c.in_ok-coverage.coverage ∷ [] = search rules in
    rw pushed (c.loop-index.invariant ∙ (ap (λ os. after done (tables_in read room os)) more ∙ step))

pub returns-clause-ok : goal.returns-clause-ok
returns-clause-ok c =
    let bytes = c.args.table.now in
    let read = λ (r : ℕ) (o : ℕ). value_at_offset [] coverage_at r bytes c.args.base o in
    let done = c.loop-index.coverages.items in
    let room = c.loop-index.room.left in
    let end = records_end (long bytes) 4 c.args.at c.args.count c.loop-index.index (omega arith) in
    c.loop-index.invariant ∙ (ap (λ os. after done (tables_in read room os)) end ∙ ap (λ xs. Ok (xs, room)) (append-nil done))

use Rattle.std.proofs.Common.{◌≡◌, ℕ, ◌+◌, ◌*◌, ◌-◌, ◌++◌, [], ◌∷◌, Ok, ap, ◌∙◌, arith, rules}
use Rattle.std.proofs.lemmas.List.{append-nil}
use Rattle.font_bytes.specs.Words.{word}
use Rattle.font_bytes.specs.Records.{records}
use Rattle.font_common.specs.Offsets.{after, tables_in, value_at_offset}
use Rattle.font_bytes.proofs.Recorded.{records_more, records_end}
use Rattle.font_common.proofs.Tables.{table_done}
use Rattle.font_common.proofs.offsets.read_tables.Goals as goal

pub loop-index-preserved : goal.loop-index-preserved
loop-index-preserved g c =
    let bytes = c.args.bytes.now in
    let reader = c.args.reader.now in
    let read = λ (r : ℕ) (o : ℕ). value_at_offset (g.T.TableReader.null_value reader) (g.T.TableReader.value_at reader) r bytes c.args.base o in
    let tables = c.loop-index.tables.items in
    let room = c.loop-index.room.left in
    let next = records (word bytes) 2 (c.args.at + 2 * (c.loop-index.index + 1)) (c.args.count - (c.loop-index.index + 1)) in
    let more = records_more (word bytes) 2 c.args.at c.args.count c.loop-index.index (omega arith) in
    let offset : c.from-offset.result ≡ word bytes (c.args.at + 2 * c.loop-index.index) = cc (c.from-offset.ensures, c.word.ensures) in
    let value = rw offset at c.in_ok-table.ensures.ok in
    let done = table_done read tables room c.read_at_offset.new.room.left (word bytes (c.args.at + 2 * c.loop-index.index)) next c.in_ok-table.table value in
    let pushed : c.push.new.self.items ≡ tables ++ c.in_ok-table.table ∷ [] = search rules in
    rw pushed (c.loop-index.invariant ∙ (ap (λ os. after tables (tables_in read room os)) more ∙ done))

pub returns-clause-ok : goal.returns-clause-ok
returns-clause-ok g c =
    let bytes = c.args.bytes.now in
    let reader = c.args.reader.now in
    let read = λ (r : ℕ) (o : ℕ). value_at_offset (g.T.TableReader.null_value reader) (g.T.TableReader.value_at reader) r bytes c.args.base o in
    let tables = c.loop-index.tables.items in
    let room = c.loop-index.room.left in
    let end = records_end (word bytes) 2 c.args.at c.args.count c.loop-index.index (omega arith) in
    c.loop-index.invariant ∙ (ap (λ os. after tables (tables_in read room os)) end ∙ ap (λ xs. Ok (xs, room)) (append-nil tables))

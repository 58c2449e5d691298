use Rattle.std.proofs.Common.{◌≡◌, ◌≢◌, ℕ, ◌+◌, ◌-◌, ◌≤◌, ◌<◌, ◌++◌, List, [], ◌∷◌, true, length, drop, get_or, max, Ok, Err, refl, ap, sym, ◌∙◌, append_assoc, arith, rules}
use Rattle.std.proofs.lemmas.List.{append-nil}
use Rattle.std.specs.Option.{option_to_list}
use Rattle.font_bytes.specs.declared.fault.TableFault.TheVariants.{OutOfMemory}
use Rattle.font_bytes.specs.Records.{records}
use Rattle.font_records.specs.Turns.{if_any}
use Rattle.font_records.specs.Covered.{rows_in}
use Rattle.font_records.proofs.Turns.{within_more, any_done, any_refused}
use Rattle.font_records.proofs.Covered.{rows_from, rows_more, rows_end, row_done, row_refused, row_if, any_if, rise_from, rise_row, rise_all}
use Rattle.font_records.proofs.rows.read_rows_of_glyphs.Goals as goal

pub read_first-requires-clause-within : goal.read_first-requires-clause-within
read_first-requires-clause-within g c =
    (within_more (g.R.RowReader.width_of c.args.reader.now) c.loop-index.at c.args.count c.loop-index.index _ (omega arith) c.loop-index.invariant.within).0

pub loop-index-preserved : goal.loop-index-preserved
loop-index-preserved g c =
    let width = g.R.RowReader.width_of c.args.reader.now in
    let row_at = g.R.RowReader.row_at c.args.reader.now c.args.table.now in
    let row = λ (r : ℕ) (o : ℕ) (n : ℕ). if_any (row_at r o n) in
    let key = g.R.RowReader.glyph_of in
    let rows = c.loop-index.rows.items in
    let room = c.loop-index.room.left in
    let glyphs = c.args.glyphs.now in
    let glyph = get_or glyphs c.loop-index.index 0 in
    let inside : c.loop-index.index < c.args.count = omega arith in
    let within : c.loop-index.index < length glyphs = omega arith in
    let left = records (λ (o : ℕ). o) width (c.loop-index.at + width) (c.args.count - (c.loop-index.index + 1)) in
    let more = rows_more row rows room c.loop-index.least width c.loop-index.at c.args.count c.loop-index.index glyph glyphs inside within refl in
    let any = sym (any_if row_at c.loop-index.least room c.loop-index.at glyph) ∙ any_done (row_if row_at c.loop-index.least room c.loop-index.at glyph) c.in_ok-row.row c.read_first.new.room.left c.in_ok-row.ensures.ok in
    let done = row_done row rows room c.read_first.new.room.left c.loop-index.least glyph c.loop-index.at (drop (c.loop-index.index + 1) glyphs) left (option_to_list c.in_ok-row.row) any in
    let pushed : c.push_some.new.items.items ≡ rows ++ option_to_list c.in_ok-row.row = search rules in
    let next : c.max-least.result ≡ max c.loop-index.least (glyph + 1) = cc in
    rw (c.width-width.ensures, pushed, next) (record {
      within = (within_more width c.loop-index.at c.args.count c.loop-index.index _ inside c.loop-index.invariant.within).1;
      all = c.loop-index.invariant.all ∙ more ∙ done;
      rising = λ rest h. rw append_assoc (c.loop-index.invariant.rising (option_to_list c.in_ok-row.row ++ rest) (rise_row key c.loop-index.least glyph c.in_ok-row.row rest c.in_ok-row.ensures.glyph h));
    })

pub returns-in_err-row-clause-refused : goal.returns-in_err-row-clause-refused
returns-in_err-row-clause-refused g c =
    let width = g.R.RowReader.width_of c.args.reader.now in
    let row_at = g.R.RowReader.row_at c.args.reader.now c.args.table.now in
    let row = λ (r : ℕ) (o : ℕ) (n : ℕ). if_any (row_at r o n) in
    let rows = c.loop-index.rows.items in
    let room = c.loop-index.room.left in
    let glyphs = c.args.glyphs.now in
    let glyph = get_or glyphs c.loop-index.index 0 in
    let e = c.in_err-row.field-0.0 in
    let inside : c.loop-index.index < c.args.count = omega arith in
    let within : c.loop-index.index < length glyphs = omega arith in
    let left = records (λ (o : ℕ). o) width (c.loop-index.at + width) (c.args.count - (c.loop-index.index + 1)) in
    let more = rows_more row rows room c.loop-index.least width c.loop-index.at c.args.count c.loop-index.index glyph glyphs inside within refl in
    let refused : e ≢ OutOfMemory → rows_in row_at width c.args.at c.args.count glyphs c.args.room.now.left ≡ Err e =
    λ n. c.loop-index.invariant.all ∙ more ∙ row_refused row rows room c.loop-index.least glyph c.loop-index.at (drop (c.loop-index.index + 1) glyphs) left e (sym (any_if row_at c.loop-index.least room c.loop-index.at glyph) ∙ any_refused (row_if row_at c.loop-index.least room c.loop-index.at glyph) e (c.in_err-row.ensures.refused n)) in
    search (rules, refused)

pub returns-clause-ok : goal.returns-clause-ok
returns-clause-ok g c =
    let width = g.R.RowReader.width_of c.args.reader.now in
    let row_at = g.R.RowReader.row_at c.args.reader.now c.args.table.now in
    let row = λ (r : ℕ) (o : ℕ) (n : ℕ). if_any (row_at r o n) in
    c.loop-index.invariant.all ∙ rows_end row c.loop-index.rows.items c.loop-index.room.left c.loop-index.least width c.loop-index.at c.args.count c.loop-index.index c.args.glyphs.now (omega arith)

pub returns-clause-rising : goal.returns-clause-rising
returns-clause-rising g c =
    let rows = c.loop-index.rows.items in
    rise_all g.R.RowReader.glyph_of rows (rw append-nil at (c.loop-index.invariant.rising [] refl))

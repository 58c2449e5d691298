use Rattle.std.proofs.Common.{◌≡◌, ◌≢◌, ℕ, ◌+◌, ◌-◌, ◌<◌, length, drop, get_or, max, Ok, Err, refl, ◌∙◌, arith, rules}
use Rattle.font_bytes.specs.declared.fault.TableFault.TheVariants.{OutOfMemory}
use Rattle.font_bytes.specs.Records.{records}
use Rattle.font_records.proofs.Covered.{rows_more, rows_end, row_refused}
use Rattle.font_positioning.specs.Pairs.{set_rows, pairs_in}
use Rattle.font_positioning.proofs.PairSets.{set_done}
use Rattle.font_positioning.proofs.pair_sets.read_pairs.Goals as goal

pub loop-index-preserved : goal.loop-index-preserved
loop-index-preserved c =
    let row = set_rows c.args.format.first c.args.format.second c.args.start c.args.table.now in
    let rows = c.loop-index.rows.items in
    let room = c.loop-index.room.left in
    let glyphs = c.args.glyphs.now in
    let glyph = get_or glyphs c.loop-index.index 0 in
    let inside : c.loop-index.index < c.args.count = omega arith in
    let within : c.loop-index.index < length glyphs = omega arith in
    let left = records (λ (o : ℕ). o) 2 (c.loop-index.at + 2) (c.args.count - (c.loop-index.index + 1)) in
    let more = rows_more row rows room c.loop-index.least 2 c.loop-index.at c.args.count c.loop-index.index glyph glyphs inside within refl in
    let done = set_done row rows c.push_first.new.rows.items room c.push_first.new.room.left c.loop-index.least glyph c.loop-index.at (drop (c.loop-index.index + 1) glyphs) left c.in_ok-push_first.ensures.ok in
    let next : c.max-least.result ≡ max c.loop-index.least (glyph + 1) = cc in
    rw next (record { within = omega arith; all = c.loop-index.invariant.all ∙ more ∙ done })

pub returns-in_err-push_first-clause-refused : goal.returns-in_err-push_first-clause-refused
returns-in_err-push_first-clause-refused c =
    let row = set_rows c.args.format.first c.args.format.second c.args.start c.args.table.now in
    let rows = c.loop-index.rows.items in
    let room = c.loop-index.room.left in
    let glyphs = c.args.glyphs.now in
    let glyph = get_or glyphs c.loop-index.index 0 in
    let e = c.in_err-push_first.field-0.0 in
    let inside : c.loop-index.index < c.args.count = omega arith in
    let within : c.loop-index.index < length glyphs = omega arith in
    let left = records (λ (o : ℕ). o) 2 (c.loop-index.at + 2) (c.args.count - (c.loop-index.index + 1)) in
    let more = rows_more row rows room c.loop-index.least 2 c.loop-index.at c.args.count c.loop-index.index glyph glyphs inside within refl in
    let refused : e ≢ OutOfMemory → pairs_in c.args.format.first c.args.format.second c.args.start c.args.table.now c.args.at c.args.count glyphs c.args.room.now.left ≡ Err e =
    λ n. c.loop-index.invariant.all ∙ more ∙ row_refused row rows room c.loop-index.least glyph c.loop-index.at (drop (c.loop-index.index + 1) glyphs) left e (c.in_err-push_first.ensures.refused n) in
    search (rules, refused)

pub returns-clause-ok : goal.returns-clause-ok
returns-clause-ok c =
    let row = set_rows c.args.format.first c.args.format.second c.args.start c.args.table.now in
    c.loop-index.invariant.all ∙ rows_end row c.loop-index.rows.items c.loop-index.room.left c.loop-index.least 2 c.loop-index.at c.args.count c.loop-index.index c.args.glyphs.now (omega arith)

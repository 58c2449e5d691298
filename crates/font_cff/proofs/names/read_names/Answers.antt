use Rattle.std.proofs.Common.{◌≡◌, ℕ, ◌+◌, ◌<◌, ◌∷◌, drop, get_or, length, add-one, drop-cons, ap, ◌∙◌, arith}
use Rattle.font_common.specs.Offsets.{after}
use Rattle.font_cff.specs.Names.{name_rows, names_from}
use Rattle.font_cff.proofs.Lists.{rows_done}
use Rattle.font_cff.proofs.names.read_names.Goals as goal

pub loop-glyph-preserved : goal.loop-glyph-preserved
loop-glyph-preserved c =
    let table = c.args.table.now in
    let strings = c.args.strings in
    let sids = c.args.sids.now in
    let glyph = c.loop-glyph.glyph in
    let room = c.loop-glyph.room.left in
    let rows = c.loop-glyph.rows.items in
    let inside : glyph < length sids = omega arith in
    let more : drop glyph sids ≡ get_or sids glyph 0 ∷ drop (glyph + 1) sids = rw (add-one, drop-cons sids glyph 0) in
    let rest = λ (r : ℕ). names_from table strings r (glyph + 1) (drop (glyph + 1) sids) in
    let step = rows_done (name_rows table strings room glyph (get_or sids glyph 0)) rest rows c.push_name.new.rows.items c.push_name.new.room.left c.in_ok-push_name.ensures.ok in
    c.loop-glyph.invariant ∙ (ap (λ xs. after rows (names_from table strings room glyph xs)) more ∙ step)

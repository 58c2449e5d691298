use Rattle.std.proofs.Common.{◌≡◌, ℕ, ◌+◌, ◌-◌, ◌++◌, [], ◌∷◌, Ok, ap, ◌∙◌, arith, rules}
use Rattle.std.proofs.lemmas.List.{append-nil}
use Rattle.font_common.specs.Offsets.{after, tables_in}
use Rattle.font_common.proofs.Tables.{table_done}
use Rattle.font_cff.specs.Fonts.{numbers}
use Rattle.font_cff.specs.Outlines.{glyph_box}
use Rattle.font_cff.proofs.Lists.{numbers_next, numbers_end}
use Rattle.font_cff.proofs.glyphs.read_boxes.Goals as goal

pub loop-glyph-preserved : goal.loop-glyph-preserved
loop-glyph-preserved c =
    let o = c.args.outlines.now in
    let read = glyph_box c.args.table.now o.cff o.privates.items o.selects.items o.sids.items in
    let done = c.loop-glyph.boxes.items in
    let room = c.loop-glyph.room.left in
    let glyph = c.loop-glyph.glyph in
    let more = numbers_next c.args.count glyph (omega arith) in
    let next = numbers (glyph + 1) (c.args.count - (glyph + 1)) in
    let read_one = table_done read done room c.glyph_box.new.room.left glyph next c.in_ok-found.found c.in_ok-found.ensures.ok in
    let pushed : c.push.new.self.items ≡ done ++ c.in_ok-found.found ∷ [] = search rules in
    rw pushed (c.loop-glyph.invariant ∙ (ap (λ os. after done (tables_in read room os)) more ∙ read_one))

use Rattle.std.proofs.Common.{◌≡◌, ℕ, ◌+◌, ◌-◌, ◌++◌, [], ◌∷◌, Ok, ap, ◌∙◌, arith, rules}
use Rattle.std.proofs.lemmas.List.{append-nil}
use Rattle.font_common.specs.Offsets.{after, tables_in}
use Rattle.font_common.proofs.Tables.{table_done}
use Rattle.font_cff.specs.Fonts.{font_private, numbers}
use Rattle.font_cff.proofs.Lists.{numbers_next, numbers_end}
use Rattle.font_cff.proofs.fonts.read_fonts.Goals as goal

pub loop-index-preserved : goal.loop-index-preserved
loop-index-preserved c =
    let read = font_private c.args.table.now c.args.cff c.args.dicts in
    let done = c.loop-index.privates.items in
    let room = c.loop-index.room.left in
    let index = c.loop-index.index in
    let more = numbers_next c.args.dicts.count index (omega arith) in
    let next = numbers (index + 1) (c.args.dicts.count - (index + 1)) in
    let read_one = table_done read done room c.read_font.new.room.left index next c.in_ok-private.private c.in_ok-private.ensures.ok in
    let pushed : c.push.new.self.items ≡ done ++ c.in_ok-private.private ∷ [] = search rules in
    rw pushed (c.loop-index.invariant ∙ (ap (λ os. after done (tables_in read room os)) more ∙ read_one))

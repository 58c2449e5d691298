use Rattle.std.proofs.Common.{arith, ◌≤◌, ◌<◌, ◌+◌, length, take, drop, sym, ◌∙◌, subst, Some, false, get_or, ◌++◌}
use Rattle.std.proofs.lemmas.List.{drop_more, length-take-le}
use Rattle.buffer_glyphs.specs.Deleting.{Deletes}
use Rattle.buffer_lists.specs.DeletionWalk.{settled_glyphs}
use Rattle.buffer_glyphs.specs.Items.{clusters}
use Rattle.buffer_glyphs.specs.Order.{IsOrdered}
use Rattle.buffer_glyphs.proofs.OneDeleted.{taken_less}
use Rattle.buffer_lists.proofs.Lemmas.Neighbours.{no_glyph}
use Rattle.buffer_lists.proofs.Walking.{settled_front, settled_back}
use Rattle.buffer_lists.proofs.Dues.{recast_due, due_new}
use Rattle.buffer_lists.proofs.deletion_within.walk.delete_after_kept.Goals as goal

pub returns-then-in_order-clause-deletes : goal.returns-then-in_order-clause-deletes
returns-then-in_order-clause-deletes c = λ level.
    taken_less level _ _ _ (get_or c.args.glyphs.now c.args.at no_glyph) _ c.last_kept-last.result (drop_more c.args.glyphs.now c.args.at no_glyph c.requires.within) c.last_kept-last.ensures c.if-last-glyph.false (sym c.next_has.ensures ∙ c.if-next_has.false)
    (recast_due c.args.walk.due c.args.in_order _ _ _ c.requires.sound.due c.last_kept-last.ensures c.if-last-glyph.false)

pub returns-then-in_order-clause-due : goal.returns-then-in_order-clause-due
returns-then-in_order-clause-due c =
    let kept = take c.args.walk.kept c.args.glyphs.now in
    let few = c.requires.sound.few in
    let some : 0 < length kept = omega (arith, length-take-le c.args.walk.kept c.args.glyphs.now (omega arith), c.requires.some) in
    due_new c.args.walk.due c.args.in_order (get_or c.args.glyphs.now c.args.at no_glyph) kept (drop (c.args.at + 1) c.args.glyphs.now) c.last_kept-last.result c.if-in_order.true some
    c.requires.sound.due
    (subst (λ hs. IsOrdered (clusters (settled_glyphs c.args.walk.due kept) ++ clusters hs)) (drop_more c.args.glyphs.now c.args.at no_glyph c.requires.within) (c.requires.sound.known c.if-in_order.true))
    c.last_kept-last.ensures c.if-last-glyph.false

pub returns-clause-deletes : goal.returns-clause-deletes
returns-clause-deletes c = λ level.
    let kept = take c.args.walk.kept c.args.glyphs.now in
    let g = get_or c.args.glyphs.now c.args.at no_glyph in
    let within : c.args.walk.kept ≤ length c.args.glyphs.now = omega (arith, c.requires.sound.few) in
    let front = settled_front (Some g) c.args.walk.kept c.args.glyphs.now c.settle.new.glyphs within c.settle.ensures in
    let back = settled_back (Some g) c.args.walk.kept (c.args.at + 1) c.args.glyphs.now c.settle.new.glyphs (omega (arith, c.requires.sound.few)) within c.settle.ensures in
    subst (λ hs. Deletes level (settled_glyphs c.args.walk.due kept) (drop c.args.at c.args.glyphs.now) (take c.args.walk.kept c.settle.new.glyphs) hs false) (sym back)
    (taken_less level (settled_glyphs c.args.walk.due kept) (drop c.args.at c.args.glyphs.now) (take c.args.walk.kept c.settle.new.glyphs) g (drop (c.args.at + 1) c.args.glyphs.now) c.last_kept-last.result
    (drop_more c.args.glyphs.now c.args.at no_glyph c.requires.within) c.last_kept-last.ensures c.if-last-glyph.false (sym c.next_has.ensures ∙ c.if-next_has.false)
    (front ∙ recast_due c.args.walk.due c.args.in_order g kept c.last_kept-last.result c.requires.sound.due c.last_kept-last.ensures c.if-last-glyph.false))

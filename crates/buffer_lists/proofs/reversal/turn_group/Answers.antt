use Rattle.std.proofs.Common.{◌≡◌, ◌≤◌, List, length, arith, ap, refl, subst, sym, ◌∙◌}
use Rattle.buffer_glyphs.specs.declared.info.hb_glyph_info_t.{hb_glyph_info_t as Glyph}
use Rattle.buffer_glyphs.specs.Items.{clusters}
use Rattle.buffer_lists.specs.Due.{MayBeDue, with_due}
use Rattle.buffer_lists.specs.Turning.{is_marked_if, range_reversed, turning_at}
use Rattle.buffer_lists.proofs.Lemmas.Turned.{group_placed, group_ordered}
use Rattle.buffer_lists.proofs.Meant.{meant_long, meant_turned, due_turned}
use Rattle.buffer_lists.proofs.reversal.turn_group.Goals as goal

pub returns-clause-turned : goal.returns-clause-turned
returns-clause-turned c =
    let merged = c.merge_group-merged in
    let old = with_due c.args.merges.due c.args.glyphs.now in
    let mid = with_due merged.result.due merged.new.glyphs in
    let new = with_due merged.result.due c.turn_part.new.items in
    let long : length old ≡ length c.args.glyphs.now = meant_long c.args.level c.args.start c.args.merges.due c.args.glyphs.now (omega (arith, c.requires.some, c.requires.within)) c.requires.due in
    let le : c.args.start ≤ c.args.end = omega (arith, c.requires.some) in
    let turned : new ≡ range_reversed c.args.start c.args.end mid = ap (with_due merged.result.due) c.turn_part.ensures ∙ meant_turned c.args.level c.args.start c.args.end merged.result.due merged.new.glyphs le (omega (arith, c.requires.within, merged.auto.glyphs)) merged.ensures.due merged.ensures.round in
    ap (turning_at c.args.end new c.turn_part-2.new.items) merged.ensures.marked
    ∙ group_placed c.args.merge c.args.level c.args.start c.args.end old mid new c.args.positions.now c.turn_part-2.new.items c.args.merges.marked (is_marked_if c.args.merge c.args.level c.args.start c.args.end (clusters old))
    le (omega (arith, c.requires.within, long)) (omega (arith, c.requires.placed, long)) merged.ensures.merged refl turned c.turn_part-2.ensures

pub returns-clause-order : goal.returns-clause-order
returns-clause-order c = λ asked mono o.
    let merged = c.merge_group-merged in
    let le : c.args.start ≤ c.args.end = omega (arith, c.requires.some) in
    group_ordered c.args.merge c.args.level c.args.start c.args.end (with_due c.args.merges.due c.args.glyphs.now) (with_due merged.result.due merged.new.glyphs) (with_due merged.result.due c.turn_part.new.items) le merged.ensures.merged
    (ap (with_due merged.result.due) c.turn_part.ensures ∙ meant_turned c.args.level c.args.start c.args.end merged.result.due merged.new.glyphs le (omega (arith, c.requires.within, merged.auto.glyphs)) merged.ensures.due merged.ensures.round)
    asked mono o

pub returns-clause-due : goal.returns-clause-due
returns-clause-due c =
    let merged = c.merge_group-merged in
    subst (λ (hs : List Glyph). MayBeDue c.args.level c.args.end merged.result.due hs) (sym c.turn_part.ensures)
    (due_turned c.args.merge c.args.level c.args.start c.args.end merged.result.due (with_due c.args.merges.due c.args.glyphs.now) merged.new.glyphs (omega (arith, c.requires.some)) (omega (arith, c.requires.within, merged.auto.glyphs)) merged.ensures.due merged.ensures.round merged.ensures.plain merged.ensures.merged)

use Rattle.layout_match.specs.Applied.{apply_context_of}
use Rattle.layout_gpos.proofs.Lemmas.Kept.{performed_kept}
use Rattle.layout_positioning.specs.Joins.{cursive_subtable}
use Rattle.layout_positioning.proofs.Joined.{entered}
use Rattle.layout_positioning.proofs.Left.{cursive_keeps}
use Rattle.layout_positioning.proofs.cursive_join.CursiveAttachmentApply.apply.Goals as goal

pub returns-clause-performed : goal.returns-clause-performed
returns-clause-performed c = λ r.
    entered r c.as_glyph.result.0 c.args.buffer.now.direction (apply_context_of c.args.ctx.now) c.args.subtable.now.rows c.entry_of.result c.in-Some.entry c.item_before-found.result c.join_found.result c.args.buffer.now c.join_found.new.buffer c.cur.result.now c.cur.ensures c.as_glyph.ensures
    c.entry_of.ensures c.in-Some.is c.item_before-found.ensures.found (c.join_found.ensures r)

pub returns-clause-kept : goal.returns-clause-kept
returns-clause-kept c =
    let s = c.args.buffer.now in
    let a = apply_context_of c.args.ctx.now in
    performed_kept (cursive_subtable s.direction a c.args.subtable.now.rows) a c.join_found.result 1 c.args._last.now s c.join_found.new.buffer (cursive_keeps s.direction a c.args.subtable.now.rows) c.requires.kept
    (entered 1 c.as_glyph.result.0 s.direction a c.args.subtable.now.rows c.entry_of.result c.in-Some.entry c.item_before-found.result c.join_found.result s c.join_found.new.buffer c.cur.result.now c.cur.ensures c.as_glyph.ensures
    c.entry_of.ensures c.in-Some.is c.item_before-found.ensures.found (c.join_found.ensures 1))

use Rattle.std.proofs.Common.{◌+◌, rules, false, Ok, Err, refl, ap, sym, ◌∙◌}
use Rattle.buffer_glyphs.specs.Items.{item_of}
use Rattle.layout_match.specs.Applied.{ApplyContext, apply_context_of}
use Rattle.buffer_stages.specs.Buffers.{cut_of}
use Rattle.layout_gpos.specs.Marks.{item_before, mark_to_mark}
use Rattle.layout_gpos.proofs.Lemmas.Kept.{performed_kept}
use Rattle.layout_gpos.proofs.Lemmas.Left.{mark_keeps}
use Rattle.layout_gpos.proofs.Lemmas.Performed.{attempt_performed}
use Rattle.layout_gpos.proofs.MarkMark.{mark_mark, on_a_mark, on_no_mark}
use Rattle.layout_gpos.proofs.mark_mark.MarkToMarkApply.apply.Goals as goal

pub returns-in-Err-clause-performed : goal.returns-in-Err-clause-performed
returns-in-Err-clause-performed c = λ r.
    mark_mark r c.as_glyph.result.0 (apply_context_of c.args.ctx.now) c.args.subtable.now c.in-Some.mark (Err c.in-Err.end) false c.args.buffer.now c.mark_attempt.new.buffer c.cur.result.now c.cur.ensures c.as_glyph.ensures
    (sym c.mark.ensures ∙ c.in-Some.is) (c.in-Err.ensures.found ∙ ap (λ (a : ApplyContext). item_before a (cut_of c.args.buffer.now)) c.among_marks.ensures.applied) (attempt_performed c.in-Err.end 1 r c.args.buffer.now c.mark_attempt.new.buffer c.mark_attempt.ensures)

pub returns-then-not-may_bear-clause-performed : goal.returns-then-not-may_bear-clause-performed
returns-then-not-may_bear-clause-performed c = λ r.
    let new = c.mark_attempt-then-not-may_bear.new.buffer in
    mark_mark r c.as_glyph.result.0 (apply_context_of c.args.ctx.now) c.args.subtable.now c.in-Some.mark (Ok c.in-Ok.back) false c.args.buffer.now new c.cur.result.now c.cur.ensures c.as_glyph.ensures
    (sym c.mark.ensures ∙ c.in-Some.is) (c.in-Ok.ensures.found ∙ ap (λ (a : ApplyContext). item_before a (cut_of c.args.buffer.now)) c.among_marks.ensures.applied)
    (on_no_mark r c.in-Ok.back c.args.subtable.now.bases c.in-Some.mark (item_of c.cur.result.now) (Ok c.in-Ok.back) c.args.buffer.now new c.glyph_before.result.now c.glyph_before.ensures (search rules) refl
    (attempt_performed (c.in-Ok.back + 1) 1 r c.args.buffer.now new c.mark_attempt-then-not-may_bear.ensures))

pub returns-clause-performed : goal.returns-clause-performed
returns-clause-performed c = λ r.
    mark_mark r c.as_glyph.result.0 (apply_context_of c.args.ctx.now) c.args.subtable.now c.in-Some.mark (Ok c.in-Ok.back) c.attach_to_base.result c.args.buffer.now c.attach_to_base.new.buffer c.cur.result.now c.cur.ensures c.as_glyph.ensures
    (sym c.mark.ensures ∙ c.in-Some.is) (c.in-Ok.ensures.found ∙ ap (λ (a : ApplyContext). item_before a (cut_of c.args.buffer.now)) c.among_marks.ensures.applied)
    (on_a_mark r c.in-Ok.back c.args.subtable.now.bases c.in-Some.mark (item_of c.cur.result.now) (Ok c.in-Ok.back) c.attach_to_base.result c.args.buffer.now c.attach_to_base.new.buffer c.glyph_before.result.now c.glyph_before.ensures (search rules) refl (c.attach_to_base.ensures r))

pub returns-clause-kept : goal.returns-clause-kept
returns-clause-kept c =
    let a = apply_context_of c.args.ctx.now in
    performed_kept (mark_to_mark a c.args.subtable.now) a c.attach_to_base.result 1 c.args._last.now c.args.buffer.now c.attach_to_base.new.buffer (mark_keeps a c.args.subtable.now) c.requires.kept
    (mark_mark 1 c.as_glyph.result.0 a c.args.subtable.now c.in-Some.mark (Ok c.in-Ok.back) c.attach_to_base.result c.args.buffer.now c.attach_to_base.new.buffer c.cur.result.now c.cur.ensures c.as_glyph.ensures
    (sym c.mark.ensures ∙ c.in-Some.is) (c.in-Ok.ensures.found ∙ ap (λ (a : ApplyContext). item_before a (cut_of c.args.buffer.now)) c.among_marks.ensures.applied)
    (on_a_mark 1 c.in-Ok.back c.args.subtable.now.bases c.in-Some.mark (item_of c.cur.result.now) (Ok c.in-Ok.back) c.attach_to_base.result c.args.buffer.now c.attach_to_base.new.buffer c.glyph_before.result.now c.glyph_before.ensures (search rules) refl (c.attach_to_base.ensures 1)))

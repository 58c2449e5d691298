use Rattle.std.proofs.Common.{false, Ok, Err, sym, ◌∙◌}
use Rattle.layout_match.specs.Applied.{apply_context_of}
use Rattle.layout_gpos.specs.Marks.{mark_to_base}
use Rattle.layout_gpos.proofs.Lemmas.Kept.{performed_kept}
use Rattle.layout_gpos.proofs.Lemmas.Left.{base_keeps}
use Rattle.layout_gpos.proofs.Lemmas.Performed.{attempt_performed}
use Rattle.layout_gpos.proofs.Attached.{base_mark}
use Rattle.layout_gpos.proofs.mark.MarkToBaseApply.apply.Goals as goal

pub returns-in-Ok-clause-performed : goal.returns-in-Ok-clause-performed
returns-in-Ok-clause-performed c = λ r.
    base_mark r c.as_glyph.result.0 (apply_context_of c.args.ctx.now) c.args.subtable.now c.in-Some.mark (Ok c.in-Ok.back) c.attach_to_base.result c.args.buffer.now c.attach_to_base.new.buffer c.cur.result.now c.cur.ensures c.as_glyph.ensures
    (sym c.mark.ensures ∙ c.in-Some.is) c.in-Ok.ensures.found (c.attach_to_base.ensures r)

pub returns-in-Err-clause-performed : goal.returns-in-Err-clause-performed
returns-in-Err-clause-performed c = λ r.
    base_mark r c.as_glyph.result.0 (apply_context_of c.args.ctx.now) c.args.subtable.now c.in-Some.mark (Err c.in-Err.end) false c.args.buffer.now c.mark_attempt.new.buffer c.cur.result.now c.cur.ensures c.as_glyph.ensures
    (sym c.mark.ensures ∙ c.in-Some.is) c.in-Err.ensures.found (attempt_performed c.in-Err.end 1 r c.args.buffer.now c.mark_attempt.new.buffer c.mark_attempt.ensures)

pub returns-in-Ok-clause-kept : goal.returns-in-Ok-clause-kept
returns-in-Ok-clause-kept c =
    let a = apply_context_of c.args.ctx.now in
    performed_kept (mark_to_base a c.args.subtable.now) a c.attach_to_base.result 1 (record c.args.last.now { base = c.found_before.new.last }) c.args.buffer.now c.attach_to_base.new.buffer (base_keeps a c.args.subtable.now) (record { base = c.in-Ok.ensures.kept; ligature = c.requires.kept.ligature })
    (base_mark 1 c.as_glyph.result.0 a c.args.subtable.now c.in-Some.mark (Ok c.in-Ok.back) c.attach_to_base.result c.args.buffer.now c.attach_to_base.new.buffer c.cur.result.now c.cur.ensures c.as_glyph.ensures (sym c.mark.ensures ∙ c.in-Some.is) c.in-Ok.ensures.found (c.attach_to_base.ensures 1))

pub returns-in-Err-clause-kept : goal.returns-in-Err-clause-kept
returns-in-Err-clause-kept c =
    let a = apply_context_of c.args.ctx.now in
    performed_kept (mark_to_base a c.args.subtable.now) a false 1 (record c.args.last.now { base = c.found_before.new.last }) c.args.buffer.now c.mark_attempt.new.buffer (base_keeps a c.args.subtable.now) (record { base = c.in-Err.ensures.kept; ligature = c.requires.kept.ligature })
    (base_mark 1 c.as_glyph.result.0 a c.args.subtable.now c.in-Some.mark (Err c.in-Err.end) false c.args.buffer.now c.mark_attempt.new.buffer c.cur.result.now c.cur.ensures c.as_glyph.ensures (sym c.mark.ensures ∙ c.in-Some.is) c.in-Err.ensures.found (attempt_performed c.in-Err.end 1 1 c.args.buffer.now c.mark_attempt.new.buffer c.mark_attempt.ensures))

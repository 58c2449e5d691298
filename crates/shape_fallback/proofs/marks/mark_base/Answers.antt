use Rattle.std.proofs.Common.{ap, ◌∙◌, drop, ◌+◌}
use Rattle.buffer_glyphs.specs.Items.{strip}
use Rattle.shape_fallback.specs.Marks.{marks}
use Rattle.shape_fallback.proofs.Marked.{base_marked_by}
use Rattle.shape_fallback.proofs.marks.mark_base.Goals as goal

pub returns-then-count-gt0 : goal.returns-then-count-gt0
returns-then-count-gt0 c =
    base_marked_by c.args.at c.marks_after-count.result _ c.info_slice.result.now c.is_mark.result c.args.buffer.now c.mark_break.new.buffer c.info_slice.ensures c.requires.there c.is_mark.ensures c.if-is_mark.false
    (c.marks_after-count.ensures.value ∙ ap (λ gs. marks (drop (c.args.at + 1) (strip gs))) c.info_slice-2.ensures) c.if-count-gt0.true c.mark_break.ensures

use Rattle.std.proofs.Common.{refl, sym, ◌∙◌}
use Rattle.shape_pipeline.proofs.Numbers.{empty_result}
use Rattle.shape_pipeline.proofs.Shaped.{empty_follows, text_follows, text_refused}
use Rattle.shape_pipeline.proofs.shaping.shape_here.Goals as goal

pub returns-then-is_empty-clause-ok : goal.returns-then-is_empty-clause-ok
returns-then-is_empty-clause-ok g c = empty_follows _ c.args.buffer.now c.leave_empty.new.buffer c.leave_empty.ensures.left (sym c.is_empty.ensures ∙ c.if-is_empty.true)

pub returns-in-Ok-clause-ok : goal.returns-in-Ok-clause-ok
returns-in-Ok-clause-ok g c =
    text_follows _ c.args.buffer.now c.shape_internal.new.buffer c.shape_internal.new.buffer refl (sym c.is_empty.ensures ∙ c.if-is_empty.false) c.in-Ok.ensures.ok

pub returns-in-Err-clause-refused : goal.returns-in-Err-clause-refused
returns-in-Err-clause-refused g c not_memory =
    text_refused _ c.args.buffer.now c.in-Err.cause c.in-Err.cause refl (sym c.is_empty.ensures ∙ c.if-is_empty.false) (c.in-Err.ensures.err not_memory)

pub returns-then-is_empty-clause-handed_on : goal.returns-then-is_empty-clause-handed_on
returns-then-is_empty-clause-handed_on g c = empty_result c.args.buffer.now c.leave_empty.new.buffer c.leave_empty.ensures.left c.requires.unshaped.unrefused c.leave_empty.ensures.placed (sym c.is_empty.ensures ∙ c.if-is_empty.true)

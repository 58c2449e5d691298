use mathlib.Core.Bool.{false≢true}
use Rattle.std.proofs.Common.{sym, ◌∙◌}
use Rattle.buffer_core.specs.Sides.{items_of}
use Rattle.layout_match.specs.Applied.{apply_context_of}
use Rattle.layout_positioning.proofs.nesting.apply_nested.Goals as goal

pub recurse-requires-clause-kept : goal.recurse-requires-clause-kept
recurse-requires-clause-kept c = c.new-last.ensures (apply_context_of c.args.ctx.now) (items_of c.spend.new.buffer)

-- a step was left
pub returns-in-Some-clause-spent : goal.returns-in-Some-clause-spent
returns-in-Some-clause-spent c = λ off. absurd (false≢true (sym off ∙ sym c.spend.ensures.left ∙ c.if-not-spend.false))

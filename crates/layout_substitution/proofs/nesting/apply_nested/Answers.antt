use mathlib.Core.Bool.{false≢true}
use Rattle.std.proofs.Common.{sym, ◌∙◌}
use Rattle.layout_substitution.proofs.nesting.apply_nested.Goals as goal

-- a step was left
pub returns-in-Some-clause-spent : goal.returns-in-Some-clause-spent
returns-in-Some-clause-spent c = λ off. absurd (false≢true (sym off ∙ sym c.spend.ensures.left ∙ c.if-not-spend.false))

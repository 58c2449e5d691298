use Rattle.std.proofs.Common.{ℕ, ◌≡◌, ◌<◌, true}
use lib.Utf8.{scalar}
use Rattle.shape_trials.specs.Breaks.{KeepsType}
use Rattle.shape_trials.proofs.premises.keep_types.Given as goal

-- each character below the number is kept
abbrev pub invariant-loop-number : goal.invariant-loop-number
invariant-loop-number l = (u : ℕ) → u < l.number → scalar u ≡ true → KeepsType l.tables u

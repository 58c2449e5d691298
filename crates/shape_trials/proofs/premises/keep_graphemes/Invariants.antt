use Rattle.std.proofs.Common.{ℕ, ◌≡◌, ◌<◌, true}
use lib.Utf8.{scalar}
use Rattle.shape_trials.specs.Breaks.{KeepsGraphemes}
use Rattle.shape_trials.proofs.premises.keep_graphemes.Given as goal

-- each character below the number is kept
abbrev pub invariant-loop-number : goal.invariant-loop-number
invariant-loop-number l = (u : ℕ) → u < l.number → scalar u ≡ true → KeepsGraphemes l.tables u

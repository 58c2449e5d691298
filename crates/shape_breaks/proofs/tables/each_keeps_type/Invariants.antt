use Rattle.std.proofs.Common.{ℕ, ◌≡◌, ◌<◌, true}
use lib.Utf8.{scalar}
use Rattle.shape_breaks.specs.Tables.{KeepsTypeAt}
use Rattle.shape_breaks.proofs.tables.each_keeps_type.Given as goal

-- each character below the number is kept
abbrev pub invariant-loop-number : goal.invariant-loop-number
invariant-loop-number l = (u : ℕ) → u < l.number → scalar u ≡ true → KeepsTypeAt l.tables u

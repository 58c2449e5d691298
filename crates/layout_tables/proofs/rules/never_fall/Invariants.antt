use Rattle.std.proofs.Common.{ℕ, ◌≤◌, ◌<◌, slice_index_or}
use Rattle.layout_tables.specs.declared.context.SequenceRule.{SequenceRule}
use Rattle.layout_tables.specs.Rules.{first_number}
use Rattle.layout_tables.proofs.rules.never_fall.Given as goal

-- the first items so far don't fall
abbrev pub invariant-loop-i : goal.invariant-loop-i
invariant-loop-i l = (a b : ℕ) (d : SequenceRule ℕ) → a ≤ b → b < l.i → first_number (slice_index_or l.rules a d).input ≤ first_number (slice_index_or l.rules b d).input

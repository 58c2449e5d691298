use Rattle.std.proofs.Common.{ℕ, ◌≡◌, ◌≤◌, ◌<◌, true}
use Rattle.buffer_unicode_tables.specs.Expansion.{ends_within}
use Rattle.buffer_unicode_tables.specs.Tables.{splits_of}
use Rattle.buffer_unicode_tables.proofs.depth.leading_consonants_end.Given as goal

abbrev pub invariant-loop-leading : goal.invariant-loop-leading
invariant-loop-leading l = (c : ℕ) → 0x1100 ≤ c → c < l.leading → ends_within (splits_of l.splits) 6 c ≡ true

use Rattle.std.proofs.Common.{ℕ, ◌≡◌, ◌≤◌, ◌<◌, is_none, true}
use Rattle.buffer_unicode_tables.specs.Tables.{splits_of}
use Rattle.buffer_unicode_tables.proofs.law_fault.stay_whole.Given as goal

abbrev pub invariant-loop-code : goal.invariant-loop-code
invariant-loop-code l = (c : ℕ) → l.base ≤ c → c < l.code → is_none (splits_of l.splits c) ≡ true

-- Lists of records whose keys are numbers that rise strictly.
use Rattle.std.specs.Prelude.{ℕ, Bool, List, Option}
use Rattle.std.specs.Ordering.{nat_cmp}
use Rattle.buffer_rows.specs.Keys as Keys

-- key k is greater than the key before it, if there is one
abbrev pub is_above : Option ℕ → ℕ → Bool
is_above before k = Keys.is_above nat_cmp before k

-- each key is greater than the one before it
abbrev pub is_rising : {R : Type 0} → (R → ℕ) → Option ℕ → List R → Bool
is_rising key before records = Keys.is_rising nat_cmp key before records

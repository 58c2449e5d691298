-- Rules that take units of the budget of nested lookups only where one is left, and read it for nothing else.
use Rattle.std.specs.Prelude.{ℕ, ℤ, ◌≡◌, Bool, true, Option, Some, None}
use Rattle.buffer_stages.specs.Actions.{Cut, Outcome, Passes, Acts, Refuses, Action}
use Rattle.layout_contexts.specs.Nested.{RecordsOutcome, Walks, Stops}
use Rattle.buffer_parts.specs.Counting.{IsFair}

-- a cut with its budget changed
abbrev pub rebudgeted_cut : (ℤ → ℤ) → Cut → Cut
rebudgeted_cut change c = record c { max_ops = change c.max_ops }

-- of two outcomes, the first from a budget `k`, the second after a change: where the first left ample, ample was there before, and the second is the same with its budget changed
abbrev pub OutcomeCounts : (ℤ → Bool) → (ℤ → ℤ) → ℤ → Outcome → Outcome → Type 0
OutcomeCounts ample change k (Passes es) p = ample k ≡ true → p ≡ Passes es
OutcomeCounts ample change k (Acts c es) p = ample c.max_ops ≡ true → (ample k ≡ true) × (p ≡ Acts (rebudgeted_cut change c) es)
OutcomeCounts ample change k (Refuses x) p = Unit {0}

-- a rule does at each cut after the change what it does before
abbrev pub RuleCounts : (ℤ → Bool) → (ℤ → ℤ) → Action → Type 0
RuleCounts ample change act = (c : Cut) → OutcomeCounts ample change c.max_ops (act c) (act (rebudgeted_cut change c))

-- a rule only counts the budget down: after each change that is not felt it does the same, and leaves what it left, changed
abbrev pub RuleCountsBudget : Action → Type 0
RuleCountsBudget act = (ample : ℤ → Bool) (change : ℤ → ℤ) → IsFair ample change → RuleCounts ample change act

-- the lookups that may be nested in a rule, where some may be, only count the budget down
abbrev pub NestCountsBudget : Option (ℕ → Action) → Type 0
NestCountsBudget None = Unit {0}
NestCountsBudget (Some act) = (i : ℕ) → RuleCountsBudget (act i)

-- of two ways over records, the first from a budget `k`, the second after a change: where the first left ample, ample was there before, and the second is the same with its budget changed
abbrev pub WalkCounts : (ℤ → Bool) → (ℤ → ℤ) → ℤ → RecordsOutcome → RecordsOutcome → Type 0
WalkCounts ample change k (Walks c ps end es) u = ample c.max_ops ≡ true → (ample k ≡ true) × (u ≡ Walks (rebudgeted_cut change c) ps end es)
WalkCounts ample change k (Stops x) u = Unit {0}

-- Cuts that differ in how long a list may be, and in the scratch flags that characters alone set; what rules do at them.
use Rattle.std.specs.Prelude.{ℕ, ◌≡◌, Option, Some, None}
use Rattle.buffer_stages.specs.Actions.{Cut, Outcome, Passes, Acts, Refuses, Action}
use Rattle.layout_contexts.specs.Nested.{RecordsOutcome, Walks, Stops}
use Rattle.buffer_parts.specs.Alike.{attachment_bit}

-- a cut with another limit of length and other scratch flags
abbrev pub cut_as : ℕ → ℕ → Cut → Cut
cut_as limit scratch_flags c = record c { max_len = limit; scratch_flags = scratch_flags }

-- two cuts are equal, but for how long a list may be and for the scratch flags that characters set
pub record CutsAlike (c d : Cut) : Type 0 where
  pub scratch_flags : attachment_bit c.scratch_flags ≡ attachment_bit d.scratch_flags
  pub same : d ≡ cut_as d.max_len d.scratch_flags c

-- outcomes of which neither refuses are alike: both pass, or both act, by the same events
abbrev pub OutcomesAlike : Outcome → Outcome → Type 0
OutcomesAlike (Passes es) (Passes fs) = es ≡ fs
OutcomesAlike (Passes es) (Acts d fs) = ⊥
OutcomesAlike (Passes es) (Refuses y) = Unit {0}
OutcomesAlike (Acts c es) (Passes fs) = ⊥
OutcomesAlike (Acts c es) (Acts d fs) = CutsAlike c d × (es ≡ fs)
OutcomesAlike (Acts c es) (Refuses y) = Unit {0}
OutcomesAlike (Refuses x) p = Unit {0}

-- a limit of length changes nothing of what a rule does, but whether it gives up
abbrev pub RuleDependsOnNoLength : Action → Type 0
RuleDependsOnNoLength act = (c d : Cut) → CutsAlike c d → OutcomesAlike (act c) (act d)

-- the lookups that may be nested in a rule, where some may be, depend on no limit of length
abbrev pub NestDependsOnNoLength : Option (ℕ → Action) → Type 0
NestDependsOnNoLength None = Unit {0}
NestDependsOnNoLength (Some act) = (i : ℕ) → RuleDependsOnNoLength (act i)

-- ways over records of which neither stops are alike
abbrev pub WalksAlike : RecordsOutcome → RecordsOutcome → Type 0
WalksAlike (Walks c ps end es) (Walks d qs to fs) = CutsAlike c d × (ps ≡ qs) × (end ≡ to) × (es ≡ fs)
WalksAlike (Walks c ps end es) (Stops y) = Unit {0}
WalksAlike (Stops x) w = Unit {0}

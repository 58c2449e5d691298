-- The budget of nested lookups: stages that take units of it only where one is left, and read it for nothing else.
use Rattle.std.specs.Prelude.{ℕ, ℤ, ◌≡◌, ◌≤◌, ◌+◌, ◌-◌, ◌+ℤ◌, ◌-ℤ◌, pos, int_lt, Bool, true, false, List, [], ◌∷◌, Ok, Err}
use Rattle.buffer_core.specs.Readings.{View, Read, Reading, Stage}
use Rattle.buffer_parts.specs.Alike.{SeenAlike}

-- something of a budget is left
abbrev pub is_left : ℤ → Bool
is_left k = int_lt (pos 0) k

-- a change of budgets is not felt as long as what is left is ample
pub record IsFair (ample : ℤ → Bool) (change : ℤ → ℤ) : Type 0 where
  -- what is ample was ample before a unit was taken
  pub before : (k : ℤ) → ample (k -ℤ pos 1) ≡ true → ample k ≡ true
  -- where a unit is taken and ample is left, one can be taken after the change
  pub stays : (k : ℤ) → is_left k ≡ true → ample (k -ℤ pos 1) ≡ true → is_left (change k) ≡ true
  -- where none can be taken, none can be after the change
  pub ends : (k : ℤ) → is_left k ≡ false → ample k ≡ true → is_left (change k) ≡ false
  -- a unit is a unit after the change
  pub less : (k : ℤ) → change (k -ℤ pos 1) ≡ change k -ℤ pos 1

-- a view with its budget changed
abbrev pub with_budget_changed : (ℤ → ℤ) → View → View
with_budget_changed change v = record v { max_ops = change v.max_ops }

-- what was read, with the budget that it left changed
abbrev pub rebudgeted_read : (ℤ → ℤ) → Read → Read
rebudgeted_read change r = record r { view = with_budget_changed change r.view }

-- of two readings, the first from a budget `k`, the second after a change: where the first left ample, ample was there before, and the second is the same with its budget changed
abbrev pub ReadingCounts : (ℤ → Bool) → (ℤ → ℤ) → ℤ → Reading → Reading → Type 0
ReadingCounts ample change k (Ok r) b = ample r.view.max_ops ≡ true → (ample k ≡ true) × (b ≡ Ok (rebudgeted_read change r))
ReadingCounts ample change k (Err e) b = Unit {0}

-- a stage reads at each view after the change what it reads before
abbrev pub StageCounts : (ℤ → Bool) → (ℤ → ℤ) → Stage → Type 0
StageCounts ample change stage = (v : View) → ReadingCounts ample change v.max_ops (stage v) (stage (with_budget_changed change v))

-- a stage only counts its budget down: after each change that is not felt it reads the same, and leaves what it left, changed
abbrev pub CountsBudget : Stage → Type 0
CountsBudget stage = (ample : ℤ → Bool) (change : ℤ → ℤ) → IsFair ample change → StageCounts ample change stage

-- each of some stages only counts its budget down
abbrev pub AllCountBudget : List Stage → Type 0
AllCountBudget [] = Unit {0}
AllCountBudget (stage ∷ stages) = CountsBudget stage × AllCountBudget stages

-- ---- more budget

-- a view with so much more budget
abbrev pub with_more_budget : ℕ → View → View
with_more_budget d v = with_budget_changed (λ k. k +ℤ pos d) v

-- what was read, with so much more left
abbrev pub eased_read : ℕ → Read → Read
eased_read d r = rebudgeted_read (λ k. k +ℤ pos d) r

-- where something was left of a budget, something was there, and with so much more the same is read and so much more is left
abbrev pub ReadingSpares : ℕ → ℤ → Reading → Reading → Type 0
ReadingSpares d k (Ok r) b = is_left r.view.max_ops ≡ true → (is_left k ≡ true) × (b ≡ Ok (eased_read d r))
ReadingSpares d k (Err e) b = Unit {0}

-- a stage that leaves something of its budget reads the same at each greater one
abbrev pub SparesBudget : Stage → Type 0
SparesBudget stage = (v : View) (d : ℕ) → ReadingSpares d v.max_ops (stage v) (stage (with_more_budget d v))

-- ---- what a reading takes

-- a view with another budget
abbrev pub at_budget : ℤ → View → View
at_budget k v = record v { max_ops = k }

-- two views are equal, but for both limits and for the scratch flags that characters set
abbrev pub SeenAlikeInAll : View → View → Type 0
SeenAlikeInAll a b = SeenAlike a (at_budget a.max_ops b)

-- from a budget of `from` on the same is read, and of each such budget `from - left` units are taken; where `left` is 0, `from` is the number of nested lookups of the reading
pub record Uses (stage : Stage) (v : View) (from left : ℕ) : Type 0 where
  pub read : Read
  pub same : (n : ℕ) → from ≤ n → stage (at_budget (pos n) v) ≡ Ok (record read { view = at_budget (pos (left + (n - from))) read.view })

-- What holds of stages that only count their budget down.
use Rattle.std.specs.Prelude.{ℕ, suc, ◌≡◌, ◌+◌, pos, Bool, true, List, Ok}
use Rattle.buffer_glyphs.specs.declared.level.BufferClusterLevel.{BufferClusterLevel}
use Rattle.buffer_core.specs.Readings.{View, Read, Stage, and_then}
use Rattle.buffer_parts.specs.Chains.{in_order, only_if}
use Rattle.buffer_parts.specs.Alike.{DependsOnNoLength}
use Rattle.buffer_parts.specs.Counting.{is_left, CountsBudget, AllCountBudget, SparesBudget, at_budget, SeenAlikeInAll, Uses}

-- a stage after another counts the budget where both do
abbrev pub TwoCountBudget : Type 0
TwoCountBudget = (s t : Stage) → CountsBudget s → CountsBudget t → CountsBudget (λ v. and_then (s v) t)

-- stages one after another count the budget where each does
abbrev pub ChainsCountBudget : Type 0
ChainsCountBudget = (stages : List Stage) → AllCountBudget stages → CountsBudget (in_order stages)

-- a stage that counts the budget does so too where it is done only by a condition
abbrev pub WantedCountBudget : Type 0
WantedCountBudget = (wanted : Bool) (stage : Stage) → CountsBudget stage → CountsBudget (only_if wanted stage)

-- such a stage reads the same at each greater budget
abbrev pub CountingSparesBudget : Type 0
CountingSparesBudget = (stage : Stage) → CountsBudget stage → SparesBudget stage

-- a run with a budget of m that leaves some reads the same with m + d, and leaves d more
abbrev pub SparingReadsTheSame : Type 0
SparingReadsTheSame = (stage : Stage) (v : View) (m k d : ℕ) (r : Read) → SparesBudget stage → stage (at_budget (pos m) v) ≡ Ok r → r.view.max_ops ≡ pos (suc k)
    → stage (at_budget (pos (m + d)) v) ≡ Ok (record r { view = at_budget (pos (suc k + d)) r.view })

-- one run that leaves some of its budget shows how many units the reading takes: with that many, and with each greater number, the same is read
abbrev pub CountingHasUses : Type 0
CountingHasUses = (stage : Stage) (v : View) (n k : ℕ) (r : Read) → CountsBudget stage → stage (at_budget (pos (n + suc k)) v) ≡ Ok r → r.view.max_ops ≡ pos (suc k) → Uses stage v n 0

-- views that differ in both limits, or in the scratch flags of characters, lead to the same where neither is refused and both leave some of the budget
abbrev pub SparingAlikeAreRead : Type 0
SparingAlikeAreRead = (stage : Stage) (a b : View) (r s : Read) → DependsOnNoLength stage → SparesBudget stage → SeenAlikeInAll a b → stage a ≡ Ok r → stage b ≡ Ok s → is_left r.view.max_ops ≡ true → is_left s.view.max_ops ≡ true
    → SeenAlikeInAll r.view s.view × (r.view.items ≡ s.view.items) × (r.view.positions ≡ s.view.positions) × ((level : BufferClusterLevel) → r.events level ≡ s.events level)

-- what is read from some budget on is the same of views that differ in both limits, or in the scratch flags of characters
abbrev pub UsedAlikeAreRead : Type 0
UsedAlikeAreRead = (stage : Stage) (a b : View) (m n j k : ℕ) → DependsOnNoLength stage → SeenAlikeInAll a b → (u : Uses stage a m j) → (w : Uses stage b n k)
    → SeenAlikeInAll u.read.view w.read.view × (u.read.view.items ≡ w.read.view.items) × (u.read.view.positions ≡ w.read.view.positions) × ((level : BufferClusterLevel) → u.read.events level ≡ w.read.events level)

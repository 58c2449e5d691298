-- The lookups of a text nest no more lookups than its budget allows.
use Rattle.std.specs.Prelude.{ℕ, ℤ, ◌≡◌, ◌≤◌, ◌+ℤ◌, pos, false, Option, None, Ok}
use Rattle.buffer_core.specs.Readings.{View, Read, Stage}
use Rattle.layout_face.specs.declared.parts.FaceParts.{FaceParts}
use Rattle.layout_map.specs.Compiled.{OtMapValue}
use Rattle.layout_tables.specs.declared.context.ContextSubtable.{ContextSubtable}
use Rattle.buffer_stages.specs.Actions.{Cut, Action}
use Rattle.buffer_stages.specs.Pauses.{Pauses}
use Rattle.layout_match.specs.Applied.{ApplyContext}
use Rattle.layout_contexts.specs.Nested.{has_budget}
use Rattle.layout_contexts.specs.Chains.{context_subtable}
use Rattle.layout_substitution.specs.Substituting.{substitution_stages}
use Rattle.layout_positioning.specs.Positioning.{positioning_stages}
use Rattle.buffer_parts.specs.Counting.{is_left}

-- units were taken of a budget, each while one was left: none of a budget of none, and never more than there were
pub record IsTaken (given left : ℤ) : Type 0 where
  pub taken : ℕ
  pub sum : given ≡ left +ℤ pos taken
  pub none : is_left given ≡ false → taken ≡ 0
  pub within : (k : ℕ) → given ≡ pos k → taken ≤ k

-- a stage takes units of the budget only while one is left, and gives none back
abbrev pub TakesWithinBudget : Stage → Type 0
TakesWithinBudget stage = (v : View) (r : Read) → stage v ≡ Ok r → IsTaken v.max_ops r.view.max_ops

-- each nested lookup takes a unit, so a run nests no more lookups than its budget, where no pause takes more
abbrev pub NestsWithinBudget : Type 0
NestsWithinBudget = (font : FaceParts) (m : OtMapValue) (pauses : Pauses) → ((n : ℕ) → TakesWithinBudget (pauses n)) → TakesWithinBudget (substitution_stages font m pauses) × TakesWithinBudget (positioning_stages font m pauses)

-- with no unit left a context does what it does where no lookup may be nested in it
abbrev pub NothingNestsWithoutBudget : Type 0
NothingNestsWithoutBudget = (nest : Option (ℕ → Action)) (a : ApplyContext) (subtable : ContextSubtable) (c : Cut) → has_budget c ≡ false → context_subtable nest a subtable c ≡ context_subtable None a subtable c

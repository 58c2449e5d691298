-- What holds of stages one after another, of the state of a buffer that follows one, and of rules in order of preference.
use Rattle.std.specs.Prelude.{ℕ, ◌≡◌, Bool, List, length, Ok}
use Rattle.buffer_glyphs.specs.Order.{IsInOrder}
use Rattle.buffer_glyphs.specs.Origins.{numbers}
use Rattle.buffer_parts.specs.Keeping.{HaveParts}
use Rattle.buffer_core.specs.Readings.{IsMonotone, Read, Stage, BufferState, and_then, state_after}
use Rattle.buffer_stages.specs.Actions.{Action, first_rule}
use Rattle.buffer_parts.specs.Stages.{KeepsParts, KeepsPartsInLine, StaysUnturned}
use Rattle.buffer_parts.specs.PlainStages.{KeepsPlainly}
use Rattle.buffer_parts.specs.Rules.{RuleKeepsParts}

-- two stages that keep the parts of a text keep them one after the other
abbrev pub StagesKeepParts : Type 0
StagesKeepParts = (first second : Stage) → KeepsParts first → KeepsParts second → KeepsParts (λ v. and_then (first v) second)

-- two stages that reverse no list reverse none one after the other
abbrev pub StagesStayUnturned : Type 0
StagesStayUnturned = (first second : Stage) → StaysUnturned first → StaysUnturned second → StaysUnturned (λ v. and_then (first v) second)

-- a stage that keeps the parts of a text whatever its clusters are keeps them, and reverses no list
abbrev pub PlainStagesKeepParts : Type 0
PlainStagesKeepParts = (stage : Stage) → KeepsPlainly stage → KeepsPartsInLine stage

-- after a stage that keeps the parts of a text, clusters that were in order are the parts of its events, and each item has one
abbrev pub RunsHaveParts : Type 0
RunsHaveParts = (stage : Stage) (run : BufferState) (r : Read) (falls : Bool) → KeepsParts stage → IsMonotone run.level → stage run.view ≡ Ok r → length run.origins ≡ length run.view.items → IsInOrder falls (numbers run.origins)
    → HaveParts falls run.asks run.level (r.events run.level) run.origins × (length (state_after r run).origins ≡ length (state_after r run).view.items)

-- the first of some rules that doesn't pass keeps the parts of a text where each rule does
abbrev pub FirstRulesKeepParts : Type 0
FirstRulesKeepParts = (act : ℕ → Action) (rules : List ℕ) → ((i : ℕ) → RuleKeepsParts (act i)) → RuleKeepsParts (first_rule act rules)

-- What holds of rules that only count the budget down.
use Rattle.std.specs.Prelude.{ℕ, List, Option}
use Rattle.layout_tables.specs.declared.context.SequenceLookupRecord.{SequenceLookupRecord}
use Rattle.buffer_stages.specs.Actions.{Action, first_rule}
use Rattle.layout_match.specs.Applied.{ApplyContext}
use Rattle.layout_match.specs.Trying.{met_first, forward_pass}
use Rattle.layout_contexts.specs.Nested.{each_nested, cut_after_match}
use Rattle.buffer_parts.specs.Counting.{CountsBudget}
use Rattle.layout_laws.specs.Counting.{RuleCountsBudget, NestCountsBudget}

-- the first of some rules counts the budget where each does
abbrev pub FirstRulesCountBudget : Type 0
FirstRulesCountBudget = (act : ℕ → Action) (rules : List ℕ) → ((i : ℕ) → RuleCountsBudget (act i)) → RuleCountsBudget (first_rule act rules)

-- a rule counts the budget where its lookup meets the item
abbrev pub MetRulesCountBudget : Type 0
MetRulesCountBudget = (a : ApplyContext) (act : Action) → RuleCountsBudget act → RuleCountsBudget (met_first a act)

-- a rule tried at each index is a stage that counts the budget
abbrev pub LookupsCountBudget : Type 0
LookupsCountBudget = (act : Action) → RuleCountsBudget act → CountsBudget (forward_pass act)

-- the lookups of a rule's records, at whatever indices, count the budget where the nested ones do
abbrev pub NestedCountBudget : Type 0
NestedCountBudget = (nest : Option (ℕ → Action)) (records : List SequenceLookupRecord) (ps : List ℕ) (end : ℕ) → NestCountsBudget nest
    → RuleCountsBudget (λ c. cut_after_match (each_nested nest records c ps end))

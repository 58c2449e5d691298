-- What holds of rules that depend on no limit of length.
use Rattle.std.specs.Prelude.{ℕ, List, Option}
use Rattle.layout_tables.specs.declared.context.SequenceLookupRecord.{SequenceLookupRecord}
use Rattle.buffer_stages.specs.Actions.{Action, first_rule}
use Rattle.layout_match.specs.Applied.{ApplyContext}
use Rattle.layout_match.specs.Trying.{met_first, forward_pass}
use Rattle.layout_contexts.specs.Nested.{each_nested, cut_after_match}
use Rattle.buffer_parts.specs.Alike.{DependsOnNoLength}
use Rattle.layout_laws.specs.Alike.{RuleDependsOnNoLength, NestDependsOnNoLength}

-- the first of some rules depends on no length where each depends on none
abbrev pub FirstRulesDependOnNoLength : Type 0
FirstRulesDependOnNoLength = (act : ℕ → Action) (rules : List ℕ) → ((i : ℕ) → RuleDependsOnNoLength (act i)) → RuleDependsOnNoLength (first_rule act rules)

-- a rule depends on no length where its lookup meets the item
abbrev pub MetRulesDependOnNoLength : Type 0
MetRulesDependOnNoLength = (a : ApplyContext) (act : Action) → RuleDependsOnNoLength act → RuleDependsOnNoLength (met_first a act)

-- a rule tried at each index is a stage that depends on no length
abbrev pub LookupsDependOnNoLength : Type 0
LookupsDependOnNoLength = (act : Action) → RuleDependsOnNoLength act → DependsOnNoLength (forward_pass act)

-- the lookups of a rule's records, at whatever indices, depend on no length where the nested ones depend on none
abbrev pub NestedDependOnNoLength : Type 0
NestedDependOnNoLength = (nest : Option (ℕ → Action)) (records : List SequenceLookupRecord) (ps : List ℕ) (end : ℕ) → NestDependsOnNoLength nest
    → RuleDependsOnNoLength (λ c. cut_after_match (each_nested nest records c ps end))

-- What holds of lookups by rules that keep the parts of a text.
use Rattle.std.specs.Prelude.{ℕ, List, Some, length}
use Rattle.layout_match.specs.Applied.{ApplyContext}
use Rattle.layout_tables.specs.declared.context.SequenceLookupRecord.{SequenceLookupRecord}
use Rattle.buffer_stages.specs.Actions.{Cut, whole, Action}
use Rattle.layout_match.specs.Trying.{met_first, forward_pass}
use Rattle.layout_contexts.specs.Nested.{each_nested, cut_after_match}
use Rattle.buffer_parts.specs.Stages.{KeepsParts}
use Rattle.buffer_parts.specs.Rules.{OutcomeKeepsParts, RuleKeepsParts}

-- a rule that keeps the parts of a text keeps them where it is tried at the items that its lookup meets
abbrev pub MetRulesKeepParts : Type 0
MetRulesKeepParts = (a : ApplyContext) (act : Action) → RuleKeepsParts act → RuleKeepsParts (met_first a act)

-- a rule that keeps the parts of a text keeps them where it is tried at each index, from the left
abbrev pub LookupsKeepParts : Type 0
LookupsKeepParts = (act : Action) → RuleKeepsParts act → KeepsParts (forward_pass act)

-- lookups nested in a rule keep the parts of a text where each of them does, whatever the indices of the match
abbrev pub NestedKeepParts : Type 0
NestedKeepParts = (act : ℕ → Action) (records : List SequenceLookupRecord) (c : Cut) (places : List ℕ) (end : ℕ) → ((i : ℕ) → RuleKeepsParts (act i)) → OutcomeKeepsParts (cut_after_match (each_nested (Some act) records c places end)) (length (whole c))

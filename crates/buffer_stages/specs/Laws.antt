-- Laws of all rules.
use Rattle.std.specs.Prelude.{◌≡◌, List, ◌++◌}
use Rattle.buffer_stages.specs.Actions.{Cut, Action, or_else, first_rule}

-- the first of some rules that acts
abbrev pub first_of_rules : List Action → Action
first_of_rules rules c = first_rule (λ act. act) rules c

-- rules after others are tried where those pass, and the events of those that passed stay
abbrev pub RulesAreTriedInOrder : Type 0
RulesAreTriedInOrder = (rules more : List Action) (c : Cut) → first_of_rules (rules ++ more) c ≡ or_else (first_of_rules rules c) (first_of_rules more c)

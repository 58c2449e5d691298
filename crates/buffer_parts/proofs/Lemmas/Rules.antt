-- Outcomes and rules that keep the parts of a text.
use Rattle.std.proofs.Common.{ℕ, ◌+◌, ◌-◌, true, false, nat_le, if◌then◌else◌, List, [], ◌∷◌, Option, Some, None, length, refl}
use Rattle.buffer_glyphs.specs.declared.level.BufferClusterLevel.{BufferClusterLevel}
use Rattle.buffer_glyphs.specs.declared.cause.ShapeCause.TheVariants.{TooLong}
use Rattle.buffer_glyphs.specs.Items.{Item}
use Rattle.buffer_glyphs.specs.Events.{Event, Break, Concat}
use Rattle.buffer_stages.specs.Actions.{Cut, whole, Outcome, Passes, Acts, Refuses, Action, within_limit, attempt_around, later, or_else, first_rule, at_first}
use Rattle.buffer_parts.specs.Keeping.{AreKept}
use Rattle.buffer_parts.specs.Lemmas.Keeping.{kept_in_turn, plain_is_kept}
use Rattle.buffer_parts.specs.Rules.{OutcomeKeepsParts, RuleKeepsParts}
use Rattle.buffer_parts.specs.StageLaws.{FirstRulesKeepParts}
use Rattle.buffer_parts.specs.Lemmas.Stages.{nothing_keeps}

pub break_keeps : (level : BufferClusterLevel) (from to n : ℕ) → AreKept level (Break from to ∷ []) n n
break_keeps level from to n = plain_is_kept level (Break from to ∷ []) n n tt tt refl

pub attempt_keeps : (back ahead : ℕ) → RuleKeepsParts (attempt_around back ahead)
attempt_keeps back ahead c level = plain_is_kept level (Concat (length c.front - back) (length c.front + ahead) ∷ []) (length (whole c)) (length (whole c)) tt tt refl

pub pass_keeps : (n : ℕ) → OutcomeKeepsParts (Passes []) n
pass_keeps n level = nothing_keeps level n

pub later_keeps : (n : ℕ) (es : List Event) (o : Outcome) → ((level : BufferClusterLevel) → AreKept level es n n) → OutcomeKeepsParts o n → OutcomeKeepsParts (later es o) n
later_keeps n es (Passes fs) p q = λ level. kept_in_turn level es fs n n n (p level) (q level)
later_keeps n es (Acts cut fs) p q = λ level. kept_in_turn level es fs n n (length (whole cut)) (p level) (q level)
later_keeps n es (Refuses cause) p q = tt

pub or_else_keeps : (n : ℕ) (o second : Outcome) → OutcomeKeepsParts o n → OutcomeKeepsParts second n → OutcomeKeepsParts (or_else o second) n
or_else_keeps n (Passes es) second p q = later_keeps n es second p q
or_else_keeps n (Acts cut es) second p q = p
or_else_keeps n (Refuses cause) second p q = tt

-- the first of some rules, whatever they are made of
pub first_rule_keeps : {R : Type 0} (act : R → Action) (rules : List R) → ((r : R) → RuleKeepsParts (act r)) → RuleKeepsParts (first_rule act rules)
first_rule_keeps act [] p c = pass_keeps (length (whole c))
first_rule_keeps act (r ∷ rules) p c = or_else_keeps (length (whole c)) (act r c) (first_rule act rules c) (p r c) (first_rule_keeps act rules p c)

pub first_rules_keep_parts : FirstRulesKeepParts
first_rules_keep_parts act rules p = first_rule_keeps act rules p

pub at_first_keeps : (act : Item → Action) (o : Option Item) → ((x : Item) → RuleKeepsParts (act x)) → RuleKeepsParts (at_first act o)
at_first_keeps act None p c = pass_keeps (length (whole c))
at_first_keeps act (Some x) p c = p x c

pub limit_keeps : (k n : ℕ) (c : Cut) (o : Outcome) → OutcomeKeepsParts o n → OutcomeKeepsParts (within_limit k c o) n
limit_keeps k n c o p = elim (nat_le (length c.front + k) c.max_len) as (λ t. OutcomeKeepsParts (if t then o else Refuses TooLong) n) [ true ↦ p | false ↦ tt ]

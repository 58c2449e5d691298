-- Rules one after another.
use Rattle.std.proofs.Common.{◌≡◌, List, [], ◌∷◌, ◌++◌, refl, sym, ap, ◌∙◌, append_assoc}
use Rattle.buffer_glyphs.specs.Events.{Event}
use Rattle.buffer_stages.specs.Actions.{Cut, Outcome, Passes, Acts, Refuses, Action, later, or_else, first_rule}
use Rattle.buffer_stages.specs.Laws.{RulesAreTriedInOrder}

after_nothing : (o : Outcome) → later [] o ≡ o
after_nothing (Passes es) = refl
after_nothing (Acts cut es) = refl
after_nothing (Refuses cause) = refl

later_both : (es fs : List Event) (o : Outcome) → later (es ++ fs) o ≡ later es (later fs o)
later_both es fs (Passes gs) = ap Passes (append_assoc es fs gs)
later_both es fs (Acts cut gs) = ap (Acts cut) (append_assoc es fs gs)
later_both es fs (Refuses cause) = refl

later_or : (es : List Event) (o p : Outcome) → or_else (later es o) p ≡ later es (or_else o p)
later_or es (Passes fs) p = later_both es fs p
later_or es (Acts cut fs) p = refl
later_or es (Refuses cause) p = refl

or_assoc : (o p q : Outcome) → or_else o (or_else p q) ≡ or_else (or_else o p) q
or_assoc (Passes es) p q = sym (later_or es p q)
or_assoc (Acts cut es) p q = refl
or_assoc (Refuses cause) p q = refl

rules_after : {R : Type 0} (act : R → Action) (rules more : List R) (c : Cut) → first_rule act (rules ++ more) c ≡ or_else (first_rule act rules c) (first_rule act more c)
rules_after act [] more c = sym (after_nothing (first_rule act more c))
rules_after act (r ∷ rules) more c = ap (or_else (act r c)) (rules_after act rules more c) ∙ or_assoc (act r c) (first_rule act rules c) (first_rule act more c)

pub rules_in_order : RulesAreTriedInOrder
rules_in_order rules more c = rules_after (λ act. act) rules more c

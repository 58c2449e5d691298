-- Rules that only count the budget down.
use Rattle.std.proofs.Common.{ℕ, zero, suc, ℤ, ◌≡◌, ◌+◌, Bool, true, false, nat_le, if◌then◌else◌, List, [], ◌∷◌, Option, Some, None, length, Ok, Err, refl, ap, ◌∙◌}
use Rattle.buffer_glyphs.specs.declared.cause.ShapeCause.{ShapeCause}
use Rattle.buffer_glyphs.specs.declared.cause.ShapeCause.TheVariants.{TooLong}
use Rattle.buffer_glyphs.specs.Items.{Item}
use Rattle.buffer_glyphs.specs.Events.{Event}
use Rattle.buffer_glyphs.specs.Parts.{first_of}
use Rattle.buffer_core.specs.Readings.{View, Reading, then_reading, with_events}
use Rattle.buffer_stages.specs.Actions.{Cut, view_at, uncut, past_item, Outcome, Passes, Acts, Refuses, Action, attempt_around, later, or_else, first_rule, at_first}
use Rattle.layout_match.specs.Applied.{ApplyContext}
use Rattle.layout_match.specs.Trying.{meets, at_met, after_outcome, outcome_past_item, trial_at, trials, with_zero_positions, whole_list}
use Rattle.buffer_parts.specs.Counting.{with_budget_changed, ReadingCounts, StageCounts}
use Rattle.buffer_parts.specs.Lemmas.Counting.{and_then_counts}
use Rattle.layout_laws.specs.Counting.{rebudgeted_cut, OutcomeCounts, RuleCounts}
use Rattle.layout_laws.specs.RuleBudgets.{FirstRulesCountBudget, MetRulesCountBudget, LookupsCountBudget}

-- ---- rules

pub or_else_counts : (ample : ℤ → Bool) (change : ℤ → ℤ) (k : ℤ) (o p second third : Outcome) → OutcomeCounts ample change k o p → OutcomeCounts ample change k second third → OutcomeCounts ample change k (or_else o second) (or_else p third)
or_else_counts ample change k (Passes es) p (Passes fs) third f g = λ l. ap (λ (x : Outcome). or_else x third) (f l) ∙ ap (λ (x : Outcome). later es x) (g l)
or_else_counts ample change k (Passes es) p (Acts b fs) third f g = λ l. ((g l).0, ap (λ (x : Outcome). or_else x third) (f (g l).0) ∙ ap (λ (x : Outcome). later es x) (g l).1)
or_else_counts ample change k (Passes es) p (Refuses y) third f g = tt
or_else_counts ample change k (Acts b es) p second third f g = λ l. ((f l).0, ap (λ (x : Outcome). or_else x third) (f l).1)
or_else_counts ample change k (Refuses x) p second third f g = tt

-- the first of some rules, whatever they are made of
pub first_rule_counts : (ample : ℤ → Bool) (change : ℤ → ℤ) {R : Type 0} (act : R → Action) (rules : List R) → ((r : R) → RuleCounts ample change (act r)) → RuleCounts ample change (first_rule act rules)
first_rule_counts ample change act [] k c = λ l. refl
first_rule_counts ample change act (r ∷ rules) k c = or_else_counts ample change c.max_ops (act r c) (act r (rebudgeted_cut change c)) (first_rule act rules c) (first_rule act rules (rebudgeted_cut change c)) (k r c) (first_rule_counts ample change act rules k c)

pub first_rules_count_budget : FirstRulesCountBudget
first_rules_count_budget act rules k ample change fair = first_rule_counts ample change act rules (λ i. k i ample change fair)

pub later_counts : (ample : ℤ → Bool) (change : ℤ → ℤ) (k : ℤ) (es : List Event) (o p : Outcome) → OutcomeCounts ample change k o p → OutcomeCounts ample change k (later es o) (later es p)
later_counts ample change k es (Passes fs) p f = λ l. ap (λ (x : Outcome). later es x) (f l)
later_counts ample change k es (Acts b fs) p f = λ l. ((f l).0, ap (λ (x : Outcome). later es x) (f l).1)
later_counts ample change k es (Refuses y) p f = tt

at_met_counts : (ample : ℤ → Bool) (change : ℤ → ℤ) (a : ApplyContext) (act : Action) (x : Item) → RuleCounts ample change act → RuleCounts ample change (at_met a act x)
at_met_counts ample change a act x k c = by_test (meets a x)
  where
    by_test : (t : Bool) → OutcomeCounts ample change c.max_ops (if t then act c else Passes []) (if t then act (rebudgeted_cut change c) else Passes [])
    by_test true = k c
    by_test false = λ l. refl

pub at_first_counts : (ample : ℤ → Bool) (change : ℤ → ℤ) (act : Item → Action) (o : Option Item) → ((x : Item) → RuleCounts ample change (act x)) → RuleCounts ample change (at_first act o)
at_first_counts ample change act None k c = λ l. refl
at_first_counts ample change act (Some x) k c = k x c

pub at_item_counts : (ample : ℤ → Bool) (change : ℤ → ℤ) (act : Item → Action) → ((x : Item) → RuleCounts ample change (act x)) → RuleCounts ample change (λ c. at_first act (first_of c.rest) c)
at_item_counts ample change act k c = at_first_counts ample change act (first_of c.rest) k c

pub met_rules_count_budget : MetRulesCountBudget
met_rules_count_budget a act k ample change fair = at_item_counts ample change (at_met a act) (λ x. at_met_counts ample change a act x (k ample change fair))

-- ---- lookups

pub limited_counts : (ample : ℤ → Bool) (change : ℤ → ℤ) (k : ℤ) (t : Bool) (a b : Outcome) (x y : ShapeCause) → OutcomeCounts ample change k a b → OutcomeCounts ample change k (if t then a else Refuses x) (if t then b else Refuses y)
limited_counts ample change k true a b x y p = p
limited_counts ample change k false a b x y p = tt

over_counts : (ample : ℤ → Bool) (change : ℤ → ℤ) (o p : Outcome) (c : Cut) → OutcomeCounts ample change c.max_ops o p → OutcomeCounts ample change c.max_ops (outcome_past_item o c) (outcome_past_item p (rebudgeted_cut change c))
over_counts ample change (Passes es) p c f = by_test (nat_le (length c.front + 1) c.max_len) (λ l. ap (λ (x : Outcome). outcome_past_item x (rebudgeted_cut change c)) (f l))
  where
    by_test : (t : Bool) → (ample c.max_ops ≡ true → outcome_past_item p (rebudgeted_cut change c) ≡ (if t then Acts (past_item (rebudgeted_cut change c)) es else Refuses TooLong)) → OutcomeCounts ample change c.max_ops (if t then Acts (past_item c) es else Refuses TooLong) (outcome_past_item p (rebudgeted_cut change c))
    by_test true g = λ l. (l, g l)
    by_test false g = tt
over_counts ample change (Acts b es) p c f = λ l. ((f l).0, ap (λ (x : Outcome). outcome_past_item x (rebudgeted_cut change c)) (f l).1)
over_counts ample change (Refuses x) p c f = tt

abbrev pub NextCounts : (ℤ → Bool) → (ℤ → ℤ) → (Cut → Reading) → (Cut → Reading) → Type 0
NextCounts ample change next more = (c : Cut) → ReadingCounts ample change c.max_ops (next c) (more (rebudgeted_cut change c))

pub after_counts : (ample : ℤ → Bool) (change : ℤ → ℤ) (o p : Outcome) (next more : Cut → Reading) (v : View) (c : Cut) → OutcomeCounts ample change c.max_ops o p → NextCounts ample change next more → ReadingCounts ample change c.max_ops (after_outcome o next v c) (after_outcome p more (with_budget_changed change v) (rebudgeted_cut change c))
after_counts ample change (Passes es) p next more v c f n = by_next (next c) (n c)
  where
    by_next : (x : Reading) → ReadingCounts ample change c.max_ops x (more (rebudgeted_cut change c)) → ReadingCounts ample change c.max_ops (then_reading (with_events es (view_at v c)) x) (after_outcome p more (with_budget_changed change v) (rebudgeted_cut change c))
    by_next (Err x) g = tt
    by_next (Ok s) g = λ l. ((g l).0, ap (λ (x : Outcome). after_outcome x more (with_budget_changed change v) (rebudgeted_cut change c)) (f (g l).0) ∙ ap (λ (x : Reading). then_reading (with_events es (view_at (with_budget_changed change v) (rebudgeted_cut change c))) x) (g l).1)
after_counts ample change (Acts b es) p next more v c f n = by_next (next b) (n b)
  where
    by_next : (x : Reading) → ReadingCounts ample change b.max_ops x (more (rebudgeted_cut change b)) → ReadingCounts ample change c.max_ops (then_reading (with_events es (view_at v b)) x) (after_outcome p more (with_budget_changed change v) (rebudgeted_cut change c))
    by_next (Err x) g = tt
    by_next (Ok s) g = λ l. ((f (g l).0).0, ap (λ (x : Outcome). after_outcome x more (with_budget_changed change v) (rebudgeted_cut change c)) (f (g l).0).1 ∙ ap (λ (x : Reading). then_reading (with_events es (view_at (with_budget_changed change v) (rebudgeted_cut change b))) x) (g l).1)
after_counts ample change (Refuses x) p next more v c f n = tt

before_counts : (ample : ℤ → Bool) (change : ℤ → ℤ) (act : Action) (next more : Cut → Reading) (v : View) (rest : List Item) (c : Cut) → RuleCounts ample change act → NextCounts ample change next more → ReadingCounts ample change c.max_ops (trial_at act next v rest c) (trial_at act more (with_budget_changed change v) rest (rebudgeted_cut change c))
before_counts ample change act next more v [] c k n = λ l. (l, refl)
before_counts ample change act next more v (x ∷ rest) c k n = after_counts ample change (outcome_past_item (act c) c) (outcome_past_item (act (rebudgeted_cut change c)) (rebudgeted_cut change c)) next more v c (over_counts ample change (act c) (act (rebudgeted_cut change c)) c (k c)) n

pub tried_counts : (ample : ℤ → Bool) (change : ℤ → ℤ) (act : Action) (v : View) (n : ℕ) → RuleCounts ample change act → NextCounts ample change (trials act v n) (trials act (with_budget_changed change v) n)
tried_counts ample change act v zero k c = λ l. (l, refl)
tried_counts ample change act v (suc n) k c = before_counts ample change act (trials act v n) (trials act (with_budget_changed change v) n) v c.rest c k (tried_counts ample change act v n k)

pub joined_counts : (ample : ℤ → Bool) (change : ℤ → ℤ) → StageCounts ample change whole_list
joined_counts ample change v = by_test (nat_le (length v.items) v.max_len)
  where
    by_test : (t : Bool) → ReadingCounts ample change v.max_ops (if t then Ok (with_zero_positions v) else Err TooLong) (if t then Ok (with_zero_positions (with_budget_changed change v)) else Err TooLong)
    by_test true = λ l. (l, refl)
    by_test false = tt

pub lookups_count_budget : LookupsCountBudget
lookups_count_budget act k ample change fair v =
    and_then_counts ample change v.max_ops (trials act v (length v.items) (uncut v)) (trials act (with_budget_changed change v) (length v.items) (uncut (with_budget_changed change v))) whole_list (tried_counts ample change act v (length v.items) (k ample change fair) (uncut v)) (joined_counts ample change)

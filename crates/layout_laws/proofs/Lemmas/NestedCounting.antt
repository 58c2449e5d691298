-- Nested lookups that only count the budget down.
use Rattle.std.proofs.Common.{ℕ, ℤ, pos, ◌≡◌, ◌-ℤ◌, ◌&&◌, Bool, true, false, nat_lt, min, if◌then◌else◌, List, [], ◌∷◌, Option, Some, None, length, refl, ap, subst, ◌∙◌}
use Rattle.std.specs.Prelude.{slice_get}
use Rattle.buffer_glyphs.specs.declared.cause.ShapeCause.TheVariants.{TooLong}
use Rattle.layout_tables.specs.declared.context.SequenceLookupRecord.{SequenceLookupRecord}
use Rattle.buffer_stages.specs.Actions.{Cut, whole, Outcome, Passes, Acts, Refuses, Action}
use Rattle.layout_contexts.specs.Nested.{RecordsOutcome, Walks, Stops, cut_at, holds, has_budget, with_budget_spent, nested_outcome, nested_outcome_at, outcome_at_index, one_record, walked_later, then_walk, each_record, cut_after_match}
use Rattle.buffer_parts.specs.Counting.{is_left, IsFair}
use Rattle.layout_laws.specs.Counting.{rebudgeted_cut, OutcomeCounts, RuleCounts, RuleCountsBudget, WalkCounts}
use Rattle.layout_laws.specs.RuleBudgets.{NestedCountBudget}

-- ---- nested lookups

there_counts : (ample : ℤ → Bool) (change : ℤ → ℤ) (i p : ℕ) (c : Cut) (ps : List ℕ) (end : ℕ) (o q : Outcome) → OutcomeCounts ample change c.max_ops o q → WalkCounts ample change c.max_ops (nested_outcome i p c ps end o) (nested_outcome i p (rebudgeted_cut change c) ps end q)
there_counts ample change i p c ps end (Passes es) q f = λ l. (l, ap (λ (x : Outcome). nested_outcome i p (rebudgeted_cut change c) ps end x) (f l))
there_counts ample change i p c ps end (Acts b es) q f = λ l. ((f l).0, ap (λ (x : Outcome). nested_outcome i p (rebudgeted_cut change c) ps end x) (f l).1)
there_counts ample change i p c ps end (Refuses x) q f = tt

nested_at_counts : (ample : ℤ → Bool) (change : ℤ → ℤ) (act : ℕ → Action) (r : SequenceLookupRecord) (p : ℕ) (c : Cut) (ps : List ℕ) (end : ℕ) → ((i : ℕ) → RuleCounts ample change (act i)) → WalkCounts ample change c.max_ops (nested_outcome_at act r p c ps end) (nested_outcome_at act r p (rebudgeted_cut change c) ps end)
nested_at_counts ample change act r p c ps end k = by_test (holds p c)
  where
    by_test : (t : Bool) → WalkCounts ample change c.max_ops (if t then nested_outcome r.sequence_index p (cut_at p c) ps end (act r.lookup_index (cut_at p c)) else Stops TooLong) (if t then nested_outcome r.sequence_index p (cut_at p (rebudgeted_cut change c)) ps end (act r.lookup_index (cut_at p (rebudgeted_cut change c))) else Stops TooLong)
    by_test true = there_counts ample change r.sequence_index p (cut_at p c) ps end (act r.lookup_index (cut_at p c)) (act r.lookup_index (cut_at p (rebudgeted_cut change c))) (k r.lookup_index (cut_at p c))
    by_test false = tt

walk_before : (ample : ℤ → Bool) (change : ℤ → ℤ) (j k : ℤ) (w u : RecordsOutcome) → (ample j ≡ true → ample k ≡ true) → WalkCounts ample change j w u → WalkCounts ample change k w u
walk_before ample change j k (Walks c ps end es) u g f = λ l. (g (f l).0, (f l).1)
walk_before ample change j k (Stops x) u g f = tt

-- what leaves nothing ample counts
walk_without : (ample : ℤ → Bool) (change : ℤ → ℤ) (j k : ℤ) (w u x : RecordsOutcome) → (ample j ≡ true → ⊥) → WalkCounts ample change j w u → WalkCounts ample change k w x
walk_without ample change j k (Walks c ps end es) u x g f = λ l. absurd (g (f l).0)
walk_without ample change j k (Stops y) u x g f = tt

at_index_counts : (ample : ℤ → Bool) (change : ℤ → ℤ) (act : ℕ → Action) (r : SequenceLookupRecord) (o : Option ℕ) (c : Cut) (ps : List ℕ) (end : ℕ) → IsFair ample change → ((i : ℕ) → RuleCounts ample change (act i)) → WalkCounts ample change c.max_ops (outcome_at_index act r o c ps end) (outcome_at_index act r o (rebudgeted_cut change c) ps end)
at_index_counts ample change act r None c ps end fair k = λ l. (l, refl)
at_index_counts ample change act r (Some p) c ps end fair k = by_tests (nat_lt p (length (whole c))) (has_budget c) (has_budget (rebudgeted_cut change c)) refl refl
  where
    nested : WalkCounts ample change (c.max_ops -ℤ pos 1) (nested_outcome_at act r p (with_budget_spent c) ps end) (nested_outcome_at act r p (rebudgeted_cut change (with_budget_spent c)) ps end)
    nested = nested_at_counts ample change act r p (with_budget_spent c) ps end k

    by_tests : (a b e : Bool) → is_left c.max_ops ≡ b → is_left (change c.max_ops) ≡ e → WalkCounts ample change c.max_ops (if a && b then nested_outcome_at act r p (with_budget_spent c) ps end else Walks c ps end []) (if a && e then nested_outcome_at act r p (with_budget_spent (rebudgeted_cut change c)) ps end else Walks (rebudgeted_cut change c) ps end [])
    by_tests false b e f g = λ l. (l, refl)
    by_tests true false false f g = λ l. (l, refl)
    by_tests true false true f g = λ l. let h = fair.ends c.max_ops f l in cc
    by_tests true true false f g = walk_without ample change (c.max_ops -ℤ pos 1) c.max_ops (nested_outcome_at act r p (with_budget_spent c) ps end) (nested_outcome_at act r p (rebudgeted_cut change (with_budget_spent c)) ps end) (Walks (rebudgeted_cut change c) ps end []) (λ l. let h = fair.stays c.max_ops f l in cc) nested
    by_tests true true true f g =
        subst (λ (z : ℤ). WalkCounts ample change c.max_ops (nested_outcome_at act r p (with_budget_spent c) ps end) (nested_outcome_at act r p (record c { max_ops = z }) ps end)) (fair.less c.max_ops)
        (walk_before ample change (c.max_ops -ℤ pos 1) c.max_ops (nested_outcome_at act r p (with_budget_spent c) ps end) (nested_outcome_at act r p (rebudgeted_cut change (with_budget_spent c)) ps end) (fair.before c.max_ops) nested)

abbrev WayCounts : (ℤ → Bool) → (ℤ → ℤ) → (Cut → List ℕ → ℕ → RecordsOutcome) → Type 0
WayCounts ample change next = (c : Cut) (ps : List ℕ) (end : ℕ) → WalkCounts ample change c.max_ops (next c ps end) (next (rebudgeted_cut change c) ps end)

then_walk_counts : (ample : ℤ → Bool) (change : ℤ → ℤ) (k : ℤ) (w u : RecordsOutcome) (next : Cut → List ℕ → ℕ → RecordsOutcome) → WalkCounts ample change k w u → WayCounts ample change next → WalkCounts ample change k (then_walk w next) (then_walk u next)
then_walk_counts ample change k (Stops x) u next f n = tt
then_walk_counts ample change k (Walks c ps end es) u next f n = by_next (next c ps end) (n c ps end)
  where
    by_next : (x : RecordsOutcome) → WalkCounts ample change c.max_ops x (next (rebudgeted_cut change c) ps end) → WalkCounts ample change k (walked_later es x) (then_walk u next)
    by_next (Stops x) g = tt
    by_next (Walks b qs to fs) g = λ l. ((f (g l).0).0, ap (λ (x : RecordsOutcome). then_walk x next) (f (g l).0).1 ∙ ap (λ (x : RecordsOutcome). walked_later es x) (g l).1)

each_counts : (ample : ℤ → Bool) (change : ℤ → ℤ) (act : ℕ → Action) (records : List SequenceLookupRecord) → IsFair ample change → ((i : ℕ) → RuleCounts ample change (act i)) → WayCounts ample change (each_record act records)
each_counts ample change act [] fair k c ps end = λ l. (l, refl)
each_counts ample change act (r ∷ records) fair k c ps end = then_walk_counts ample change c.max_ops (one_record act r c ps end) (one_record act r (rebudgeted_cut change c) ps end) (each_record act records) (at_index_counts ample change act r (slice_get ps r.sequence_index) c ps end fair k) (each_counts ample change act records fair k)

pub after_match_counts : (ample : ℤ → Bool) (change : ℤ → ℤ) (k : ℤ) (w u : RecordsOutcome) → WalkCounts ample change k w u → OutcomeCounts ample change k (cut_after_match w) (cut_after_match u)
after_match_counts ample change k (Stops x) u f = tt
after_match_counts ample change k (Walks c ps end es) u f = by_test (holds (min end (length (whole c))) c) (λ l. ap (λ (x : RecordsOutcome). cut_after_match x) (f l).1)
  where
    by_test : (t : Bool) → (ample c.max_ops ≡ true → cut_after_match u ≡ (if t then Acts (cut_at (min end (length (whole c))) (rebudgeted_cut change c)) es else Refuses TooLong)) → OutcomeCounts ample change k (if t then Acts (cut_at (min end (length (whole c))) c) es else Refuses TooLong) (cut_after_match u)
    by_test true g = λ l. ((f l).0, g l)
    by_test false g = tt

nested_counts : (act : ℕ → Action) (records : List SequenceLookupRecord) (ps : List ℕ) (end : ℕ) → ((i : ℕ) → RuleCountsBudget (act i)) → RuleCountsBudget (λ c. cut_after_match (each_record act records c ps end))
nested_counts act records ps end k ample change fair c =
    after_match_counts ample change c.max_ops (each_record act records c ps end) (each_record act records (rebudgeted_cut change c) ps end) (each_counts ample change act records fair (λ i. k i ample change fair) c ps end)

pub nested_count_budget : NestedCountBudget
nested_count_budget None records ps end k = λ ample change fair c. after_match_counts ample change c.max_ops (Walks c ps end []) (Walks (rebudgeted_cut change c) ps end []) (λ l. (l, refl))
nested_count_budget (Some act) records ps end k = nested_counts act records ps end k

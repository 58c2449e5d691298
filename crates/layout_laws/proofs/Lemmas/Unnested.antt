-- With no unit of the budget left, no lookup is nested.
use Rattle.std.proofs.Common.{ℕ, ◌≡◌, ◌+◌, ◌-◌, ◌&&◌, Bool, true, false, nat_le, nat_lt, if◌then◌else◌, List, [], ◌∷◌, Option, Some, None, Result, Ok, Err, length, map, drop, refl, ap, ◌∙◌}
use Rattle.std.specs.Prelude.{slice_get}
use Rattle.buffer_glyphs.specs.Items.{Item}
use Rattle.buffer_glyphs.specs.Parts.{first_of}
use Rattle.buffer_glyphs.specs.Events.{Break}
use Rattle.layout_tables.specs.declared.context.SequenceLookupRecord.{SequenceLookupRecord}
use Rattle.layout_tables.specs.declared.context.ContextSubtable.TheVariants.{Glyphs, Classes, Coverage}
use Rattle.buffer_stages.specs.Actions.{Cut, Outcome, Passes, Action, whole, later, or_else, first_rule, at_first}
use Rattle.layout_match.specs.Applied.{ApplyContext, own_search, context_search}
use Rattle.layout_match.specs.Matches.{input_end, input_indices, lookahead_end, backtrack_end}
use Rattle.layout_match.specs.Sequences.{is_covered_by}
use Rattle.layout_contexts.specs.Nested.{RecordsOutcome, Walks, has_budget, with_budget_spent, nested_outcome_at, outcome_at_index, then_walk, each_record, each_nested, cut_after_match}
use Rattle.layout_contexts.specs.Chains.{Chain, glyph_chain, class_chain, coverage_chain, begins, by_backtrack, by_lookahead, by_input, chain_at, chain_rule, class_rules}
use Rattle.layout_laws.specs.Nesting.{NothingNestsWithoutBudget}

at_index_is : (act : ℕ → Action) (r : SequenceLookupRecord) (o : Option ℕ) (c : Cut) (ps : List ℕ) (end : ℕ) → has_budget c ≡ false → outcome_at_index act r o c ps end ≡ Walks c ps end []
at_index_is act r None c ps end e = refl
at_index_is act r (Some p) c ps end e = by_tests (nat_lt p (length (whole c))) (has_budget c) e
  where
    by_tests : (a b : Bool) → b ≡ false → ◌≡◌ {A = RecordsOutcome} (if a && b then nested_outcome_at act r p (with_budget_spent c) ps end else Walks c ps end []) (Walks c ps end [])
    by_tests false b f = refl
    by_tests true false f = refl
    by_tests true true f = cc

each_is : (act : ℕ → Action) (records : List SequenceLookupRecord) (c : Cut) (ps : List ℕ) (end : ℕ) → has_budget c ≡ false → each_record act records c ps end ≡ Walks c ps end []
each_is act [] c ps end e = refl
each_is act (r ∷ records) c ps end e =
    ap (λ (w : RecordsOutcome). then_walk w (each_record act records)) (at_index_is act r (slice_get ps r.sequence_index) c ps end e)
    ∙ ap (λ (w : RecordsOutcome). then_walk (Walks c ps end []) (λ d qs to. w)) (each_is act records c ps end e)

nested_is : (nest : Option (ℕ → Action)) (records : List SequenceLookupRecord) (c : Cut) (ps : List ℕ) (end : ℕ) → has_budget c ≡ false → each_nested nest records c ps end ≡ each_nested None records c ps end
nested_is None records c ps end e = refl
nested_is (Some act) records c ps end e = each_is act records c ps end e

backtrack_is : (nest : Option (ℕ → Action)) (a : ApplyContext) (r : Chain) (end ahead : ℕ) (back : Result ℕ ℕ) (c : Cut) → has_budget c ≡ false → by_backtrack nest a r end ahead back c ≡ by_backtrack None a r end ahead back c
backtrack_is nest a r end ahead (Ok back) c e =
    ap (λ (w : RecordsOutcome). later (Break (length c.front - back) (length c.front + ahead) ∷ []) (cut_after_match w))
    (nested_is nest r.records c (map (λ k. k + length c.front) (input_indices (own_search a c.rest) (drop 1 r.input) c.rest)) (length c.front + end) e)
backtrack_is nest a r end ahead (Err back) c e = refl

lookahead_is : (nest : Option (ℕ → Action)) (a : ApplyContext) (r : Chain) (end : ℕ) (ahead : Result ℕ ℕ) (c : Cut) → has_budget c ≡ false → by_lookahead nest a r end ahead c ≡ by_lookahead None a r end ahead c
lookahead_is nest a r end (Ok ahead) c e = backtrack_is nest a r end ahead (backtrack_end (context_search a c.rest) r.backtrack c.front) c e
lookahead_is nest a r end (Err ahead) c e = refl

input_is : (nest : Option (ℕ → Action)) (a : ApplyContext) (r : Chain) (end : Result ℕ ℕ) (c : Cut) → has_budget c ≡ false → by_input nest a r end c ≡ by_input None a r end c
input_is nest a r (Ok end) c e = lookahead_is nest a r end (lookahead_end (context_search a c.rest) r.lookahead end c.rest) c e
input_is nest a r (Err ahead) c e = refl

test_is : (t : Bool) (o p : Outcome) → o ≡ p → ◌≡◌ {A = Outcome} (if t then o else Passes []) (if t then p else Passes [])
test_is true o p e = e
test_is false o p e = refl

item_is : (act other : Item → Action) (o : Option Item) (c : Cut) → ((x : Item) → act x c ≡ other x c) → at_first act o c ≡ at_first other o c
item_is act other None c k = refl
item_is act other (Some x) c k = k x

first_is : {R : Type 0} (act other : R → Action) (rules : List R) (c : Cut) → ((r : R) → act r c ≡ other r c) → first_rule act rules c ≡ first_rule other rules c
first_is act other [] c k = refl
first_is act other (r ∷ rules) c k = ap (λ (o : Outcome). or_else o (first_rule act rules c)) (k r) ∙ ap (λ (o : Outcome). or_else (other r c) o) (first_is act other rules c k)

chain_is : (nest : Option (ℕ → Action)) (a : ApplyContext) (r : Chain) (c : Cut) → has_budget c ≡ false → chain_rule nest a r c ≡ chain_rule None a r c
chain_is nest a r c e = item_is (chain_at nest a r) (chain_at None a r) (first_of c.rest) c (λ x.
    test_is (begins r.input x && nat_le (length r.input) 64) (by_input nest a r (input_end (own_search a c.rest) (drop 1 r.input) c.rest) c) (by_input None a r (input_end (own_search a c.rest) (drop 1 r.input) c.rest) c)
    (input_is nest a r (input_end (own_search a c.rest) (drop 1 r.input) c.rest) c e))

pub nothing_nests_without_budget : NothingNestsWithoutBudget
nothing_nests_without_budget nest a (Glyphs rules) c e = first_is (λ r. chain_rule nest a (glyph_chain r)) (λ r. chain_rule None a (glyph_chain r)) rules c (λ r. chain_is nest a (glyph_chain r) c e)
nothing_nests_without_budget nest a (Classes s) c e = item_is (class_rules nest a s) (class_rules None a s) (first_of c.rest) c (λ x.
    test_is (is_covered_by s.first x) (first_rule (λ r. chain_rule nest a (class_chain s r)) s.rules c) (first_rule (λ r. chain_rule None a (class_chain s r)) s.rules c)
    (first_is (λ r. chain_rule nest a (class_chain s r)) (λ r. chain_rule None a (class_chain s r)) s.rules c (λ r. chain_is nest a (class_chain s r) c e)))
nothing_nests_without_budget nest a (Coverage rules) c e = first_is (λ r. chain_rule nest a (coverage_chain r)) (λ r. chain_rule None a (coverage_chain r)) rules c (λ r. chain_is nest a (coverage_chain r) c e)

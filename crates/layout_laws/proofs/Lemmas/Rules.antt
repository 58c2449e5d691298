-- What holds of all rules of lookups, by how they are put together of others: a relation between what a rule does at a cut and what it does at the same cut with other limits.
use Rattle.std.proofs.Common.{ℕ, ℤ, ◌≡◌, ◌+◌, ◌-◌, ◌&&◌, Bool, true, false, nat_le, if◌then◌else◌, List, [], ◌∷◌, Option, Some, None, Result, Ok, Err, length, map, drop, refl}
use Rattle.buffer_glyphs.specs.Items.{Item}
use Rattle.buffer_glyphs.specs.Parts.{first_of}
use Rattle.buffer_glyphs.specs.Events.{Break}
use Rattle.layout_tables.specs.declared.context.SequenceLookupRecord.{SequenceLookupRecord}
use Rattle.layout_tables.specs.declared.context.ContextSubtable.{ContextSubtable}
use Rattle.layout_tables.specs.declared.context.ContextSubtable.TheVariants.{Glyphs, Classes, Coverage}
use Rattle.buffer_stages.specs.Actions.{Cut, Outcome, Passes, Action, attempt_around, later, or_else, first_rule, at_first}
use Rattle.layout_match.specs.Applied.{ApplyContext, own_search, context_search}
use Rattle.layout_match.specs.Matches.{input_end, input_indices, lookahead_end, backtrack_end}
use Rattle.layout_match.specs.Sequences.{is_covered_by}
use Rattle.layout_match.specs.Trying.{meets, at_met, met_first}
use Rattle.layout_contexts.specs.Nested.{each_nested, cut_after_match}
use Rattle.layout_contexts.specs.Chains.{Chain, glyph_chain, class_chain, coverage_chain, begins, nested_lookups, by_backtrack, by_lookahead, by_input, chain_at, chain_rule, class_rules, context_subtable}

-- what a rule does at a cut is related to what it does at the same cut with other limits and other scratch flags, in ways given by an index
pub record Limits : Type 1 where
  pub Index : Type 0
  pub Holds : Index → Cut → Outcome → Outcome → Type 0
  pub limit : Index → Cut → ℕ
  pub scratch_flags : Index → Cut → ℕ
  pub budget : Index → Cut → ℤ

-- the same cut with the other limits
abbrev pub recut : (w : Limits) → w.Index → Cut → Cut
recut w i c = record c { max_len = w.limit i c; scratch_flags = w.scratch_flags i c; max_ops = w.budget i c }

-- a rule is related to itself at each cut
abbrev pub IsRelated : (w : Limits) → w.Index → Action → Type 0
IsRelated w i act = (c : Cut) → w.Holds i c (act c) (act (recut w i c))

-- so are the lookups that may be nested in a rule, where some may be, in each way
abbrev pub NestRelated : Limits → Option (ℕ → Action) → Type 0
NestRelated w None = Unit {0}
NestRelated w (Some act) = (n : ℕ) (i : w.Index) → IsRelated w i (act n)

-- a relation is kept by all ways in which rules are put together
pub record IsClosed (w : Limits) : Type 0 where
  pub passes : (i : w.Index) (c : Cut) → w.Holds i c (Passes []) (Passes [])
  pub attempts : (i : w.Index) (back ahead : ℕ) (c : Cut) → w.Holds i c (attempt_around back ahead c) (attempt_around back ahead c)
  pub either : (i : w.Index) (c : Cut) (o p second third : Outcome) → w.Holds i c o p → w.Holds i c second third → w.Holds i c (or_else o second) (or_else p third)
  pub breaks : (i : w.Index) (from to : ℕ) (c : Cut) (o p : Outcome) → w.Holds i c o p → w.Holds i c (later (Break from to ∷ []) o) (later (Break from to ∷ []) p)
  pub nested : (i : w.Index) (nest : Option (ℕ → Action)) (records : List SequenceLookupRecord) (ps : List ℕ) (end : ℕ) (c : Cut) → NestRelated w nest
      → w.Holds i c (cut_after_match (each_nested nest records c ps end)) (cut_after_match (each_nested nest records (recut w i c) ps end))

-- ---- one of some rules, and rules at an item

pub first_related : (w : Limits) (i : w.Index) → IsClosed w → {R : Type 0} (act : R → Action) (rules : List R) → ((r : R) → IsRelated w i (act r)) → IsRelated w i (first_rule act rules)
first_related w i closed act [] k c = closed.passes i c
first_related w i closed act (r ∷ rules) k c = closed.either i c (act r c) (act r (recut w i c)) (first_rule act rules c) (first_rule act rules (recut w i c)) (k r c) (first_related w i closed act rules k c)

-- what is known of a rule by the item at the cut
pub item_related : (w : Limits) (i : w.Index) → IsClosed w → (act : Item → Action) (c : Cut) → ((x : Item) → first_of c.rest ≡ Some x → w.Holds i c (act x c) (act x (recut w i c)))
    → w.Holds i c (at_first act (first_of c.rest) c) (at_first act (first_of c.rest) (recut w i c))
item_related w i closed act c k = by_item (first_of c.rest) refl
  where
    by_item : (o : Option Item) → first_of c.rest ≡ o → w.Holds i c (at_first act o c) (at_first act o (recut w i c))
    by_item None e = closed.passes i c
    by_item (Some x) e = k x e

pub test_related : (w : Limits) (i : w.Index) (c : Cut) (test : Bool) (o p q r : Outcome) → w.Holds i c o q → w.Holds i c p r → w.Holds i c (if test then o else p) (if test then q else r)
test_related w i c true o p q r f g = f
test_related w i c false o p q r f g = g

pub met_related : (w : Limits) (i : w.Index) → IsClosed w → (a : ApplyContext) (act : Action) → IsRelated w i act → IsRelated w i (met_first a act)
met_related w i closed a act k c = item_related w i closed (at_met a act) c (λ x e. test_related w i c (meets a x) (act c) (Passes []) (act (recut w i c)) (Passes []) (k c) (closed.passes i c))

-- ---- contexts

backtrack_related : (w : Limits) (i : w.Index) → IsClosed w → (nest : Option (ℕ → Action)) → NestRelated w nest → (a : ApplyContext) (r : Chain) (end ahead : ℕ) (back : Result ℕ ℕ) → IsRelated w i (by_backtrack nest a r end ahead back)
backtrack_related w i closed nest k a r end ahead (Ok back) c =
    closed.breaks i (length c.front - back) (length c.front + ahead) c (nested_lookups nest a r end c) (nested_lookups nest a r end (recut w i c))
    (closed.nested i nest r.records (map (λ k. k + length c.front) (input_indices (own_search a c.rest) (drop 1 r.input) c.rest)) (length c.front + end) c k)
backtrack_related w i closed nest k a r end ahead (Err back) c = closed.attempts i back 1 c

lookahead_related : (w : Limits) (i : w.Index) → IsClosed w → (nest : Option (ℕ → Action)) → NestRelated w nest → (a : ApplyContext) (r : Chain) (end : ℕ) (ahead : Result ℕ ℕ) → IsRelated w i (by_lookahead nest a r end ahead)
lookahead_related w i closed nest k a r end (Ok ahead) c = backtrack_related w i closed nest k a r end ahead (backtrack_end (context_search a c.rest) r.backtrack c.front) c
lookahead_related w i closed nest k a r end (Err ahead) c = closed.attempts i 0 ahead c

input_related : (w : Limits) (i : w.Index) → IsClosed w → (nest : Option (ℕ → Action)) → NestRelated w nest → (a : ApplyContext) (r : Chain) (end : Result ℕ ℕ) → IsRelated w i (by_input nest a r end)
input_related w i closed nest k a r (Ok end) c = lookahead_related w i closed nest k a r end (lookahead_end (context_search a c.rest) r.lookahead end c.rest) c
input_related w i closed nest k a r (Err ahead) c = closed.attempts i 0 ahead c

chain_related : (w : Limits) (i : w.Index) → IsClosed w → (nest : Option (ℕ → Action)) → NestRelated w nest → (a : ApplyContext) (r : Chain) → IsRelated w i (chain_rule nest a r)
chain_related w i closed nest k a r c = item_related w i closed (chain_at nest a r) c (λ x e.
    test_related w i c (begins r.input x && nat_le (length r.input) 64) (by_input nest a r (input_end (own_search a c.rest) (drop 1 r.input) c.rest) c) (Passes []) (by_input nest a r (input_end (own_search a c.rest) (drop 1 r.input) c.rest) (recut w i c)) (Passes [])
    (input_related w i closed nest k a r (input_end (own_search a c.rest) (drop 1 r.input) c.rest) c) (closed.passes i c))

pub context_related : (w : Limits) (i : w.Index) → IsClosed w → (nest : Option (ℕ → Action)) → NestRelated w nest → (a : ApplyContext) (s : ContextSubtable) → IsRelated w i (context_subtable nest a s)
context_related w i closed nest k a (Glyphs rules) c = first_related w i closed (λ r. chain_rule nest a (glyph_chain r)) rules (λ r. chain_related w i closed nest k a (glyph_chain r)) c
context_related w i closed nest k a (Classes s) c = item_related w i closed (class_rules nest a s) c (λ x e.
    test_related w i c (is_covered_by s.first x) (first_rule (λ r. chain_rule nest a (class_chain s r)) s.rules c) (Passes []) (first_rule (λ r. chain_rule nest a (class_chain s r)) s.rules (recut w i c)) (Passes [])
    (first_related w i closed (λ r. chain_rule nest a (class_chain s r)) s.rules (λ r. chain_related w i closed nest k a (class_chain s r)) c) (closed.passes i c))
context_related w i closed nest k a (Coverage rules) c = first_related w i closed (λ r. chain_rule nest a (coverage_chain r)) rules (λ r. chain_related w i closed nest k a (coverage_chain r)) c

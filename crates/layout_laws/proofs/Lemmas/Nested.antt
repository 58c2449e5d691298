-- Nested lookups that keep the parts of a text.
use Rattle.std.proofs.Common.{ℕ, ◌≡◌, ◌&&◌, true, false, nat_lt, min, if◌then◌else◌, List, [], ◌∷◌, Option, Some, None, length, ap, sym, subst}
use Rattle.std.specs.Prelude.{slice_get}
use Rattle.std.proofs.lemmas.List.{take-append-drop}
use Rattle.buffer_glyphs.specs.declared.level.BufferClusterLevel.{BufferClusterLevel}
use Rattle.buffer_glyphs.specs.declared.cause.ShapeCause.TheVariants.{TooLong}
use Rattle.layout_tables.specs.declared.context.SequenceLookupRecord.{SequenceLookupRecord}
use Rattle.buffer_stages.specs.Actions.{Cut, whole, Outcome, Passes, Acts, Refuses, Action}
use Rattle.layout_contexts.specs.Nested.{RecordsOutcome, Walks, Stops, cut_at, holds, has_budget, with_budget_spent, nested_outcome, nested_outcome_at, outcome_at_index, one_record, walked_later, then_walk, each_record, cut_after_match}
use Rattle.buffer_parts.specs.Keeping.{AreKept}
use Rattle.buffer_parts.specs.Lemmas.Keeping.{kept_in_turn}
use Rattle.buffer_parts.specs.Rules.{OutcomeKeepsParts, RuleKeepsParts}
use Rattle.buffer_parts.specs.Lemmas.Stages.{nothing_keeps}
use Rattle.layout_laws.specs.RuleParts.{NestedKeepParts}
use Rattle.layout_positioning.proofs.Left.{cut_whole as nested_whole}

-- the events of a walk, on n items, keep the parts of the text
abbrev WalkKeeps : ℕ → RecordsOutcome → Type 0
WalkKeeps n (Walks cut ps end es) = (level : BufferClusterLevel) → AreKept level es n (length (whole cut))
WalkKeeps n (Stops cause) = Unit {0}

still_keeps : (c : Cut) (ps : List ℕ) (end : ℕ) → WalkKeeps (length (whole c)) (Walks c ps end [])
still_keeps c ps end level = nothing_keeps level (length (whole c))

there_keeps : (i p : ℕ) (c : Cut) (ps : List ℕ) (end : ℕ) (o : Outcome) → OutcomeKeepsParts o (length (whole c)) → WalkKeeps (length (whole c)) (nested_outcome i p c ps end o)
there_keeps i p c ps end (Passes es) k = k
there_keeps i p c ps end (Acts cut es) k = k
there_keeps i p c ps end (Refuses cause) k = tt

at_keeps : (act : ℕ → Action) (r : SequenceLookupRecord) (p : ℕ) (c : Cut) (ps : List ℕ) (end : ℕ) → ((i : ℕ) → RuleKeepsParts (act i)) → WalkKeeps (length (whole c)) (nested_outcome_at act r p c ps end)
at_keeps act r p c ps end k = elim (holds p c) as (λ t. WalkKeeps (length (whole c)) (if t then nested_outcome r.sequence_index p (cut_at p c) ps end (act r.lookup_index (cut_at p c)) else Stops TooLong)) [
  | true ↦ subst (λ (n : ℕ). WalkKeeps n (nested_outcome r.sequence_index p (cut_at p c) ps end (act r.lookup_index (cut_at p c)))) (ap (λ xs. length xs) (nested_whole p c))
      (there_keeps r.sequence_index p (cut_at p c) ps end (act r.lookup_index (cut_at p c)) (k r.lookup_index (cut_at p c)))
  | false ↦ tt
]

at_index_keeps : (act : ℕ → Action) (r : SequenceLookupRecord) (o : Option ℕ) (c : Cut) (ps : List ℕ) (end : ℕ) → ((i : ℕ) → RuleKeepsParts (act i)) → WalkKeeps (length (whole c)) (outcome_at_index act r o c ps end)
at_index_keeps act r None c ps end k = still_keeps c ps end
at_index_keeps act r (Some p) c ps end k = elim (nat_lt p (length (whole c)) && has_budget c) as (λ t. WalkKeeps (length (whole c)) (if t then nested_outcome_at act r p (with_budget_spent c) ps end else Walks c ps end []))
    [ true ↦ at_keeps act r p (with_budget_spent c) ps end k | false ↦ still_keeps c ps end ]

walk_in_turn : (n : ℕ) (w : RecordsOutcome) (next : Cut → List ℕ → ℕ → RecordsOutcome) → WalkKeeps n w → ((d : Cut) (ps : List ℕ) (end : ℕ) → WalkKeeps (length (whole d)) (next d ps end)) → WalkKeeps n (then_walk w next)
walk_in_turn n (Walks cut ps end es) next p q = by_next (next cut ps end) (q cut ps end)
  where
    by_next : (w : RecordsOutcome) → WalkKeeps (length (whole cut)) w → WalkKeeps n (walked_later es w)
    by_next (Walks d qs to fs) k = λ level. kept_in_turn level es fs n (length (whole cut)) (length (whole d)) (p level) (k level)
    by_next (Stops cause) k = tt
walk_in_turn n (Stops cause) next p q = tt

each_keeps : (act : ℕ → Action) (records : List SequenceLookupRecord) (c : Cut) (ps : List ℕ) (end : ℕ) → ((i : ℕ) → RuleKeepsParts (act i)) → WalkKeeps (length (whole c)) (each_record act records c ps end)
each_keeps act [] c ps end k = still_keeps c ps end
each_keeps act (r ∷ records) c ps end k = walk_in_turn (length (whole c)) (one_record act r c ps end) (each_record act records) (at_index_keeps act r (slice_get ps r.sequence_index) c ps end k) (λ d qs to. each_keeps act records d qs to k)

after_match_keeps : (n : ℕ) (w : RecordsOutcome) → WalkKeeps n w → OutcomeKeepsParts (cut_after_match w) n
after_match_keeps n (Walks cut ps end es) k = elim (holds (min end (length (whole cut))) cut) as (λ t. OutcomeKeepsParts (if t then Acts (cut_at (min end (length (whole cut))) cut) es else Refuses TooLong) n) [
  | true ↦ λ level. subst (λ (m : ℕ). AreKept level es n m) (sym (ap (λ xs. length xs) (nested_whole (min end (length (whole cut))) cut))) (k level)
  | false ↦ tt
]
after_match_keeps n (Stops cause) k = tt

pub nested_keep_parts : NestedKeepParts
nested_keep_parts act records c ps end k = after_match_keeps (length (whole c)) (each_record act records c ps end) (each_keeps act records c ps end k)

-- Lookups of substitution lose no flag.
use Rattle.std.proofs.Common.{ℕ, zero, suc, ◌+◌, Bool, true, false, nat_lt, nat_le, ◌&&◌, min, if◌then◌else◌, List, [], ◌∷◌, Option, Some, None, Ok, Err, length, subst}
use Rattle.std.specs.Prelude.{◌%◌, slice_get}
use Rattle.buffer_glyphs.specs.declared.cause.ShapeCause.TheVariants.{TooLong}
use Rattle.buffer_glyphs.specs.declared.level.BufferClusterLevel.{BufferClusterLevel}
use Rattle.buffer_glyphs.specs.Items.{Item}
use Rattle.buffer_glyphs.specs.Events.{Event, Break}
use Rattle.buffer_parts.specs.Counts.{count_after}
use Rattle.buffer_core.specs.Readings.{View, Reading, with_events, then_reading}
use Rattle.layout_face.specs.declared.parts.GlyphDefinition.{GlyphDefinition}
use Rattle.layout_tables.specs.declared.context.SequenceLookupRecord.{SequenceLookupRecord}
use Rattle.buffer_stages.specs.Actions.{Cut, whole, view_at, uncut, past_item, Outcome, Passes, Acts, Refuses, Action, within_limit, later, or_else}
use Rattle.layout_match.specs.Applied.{next_random}
use Rattle.layout_match.specs.Trying.{after_outcome, outcome_past_item, trial_at, trials, forward_pass}
use Rattle.layout_contexts.specs.Nested.{RecordsOutcome, Walks, Stops, cut_at, holds, has_budget, with_budget_spent, nested_outcome, outcome_at_index, one_record, walked_later, then_walk, each_record, each_nested, cut_after_match}
use Rattle.layout_gsub.specs.Ligating.{component_deletions}
use Rattle.layout_gsub.specs.Replacements.{single_substitution, cut_with_substitute}
use Rattle.layout_substitution.specs.Lookups.{lookup_action}
use Rattle.layout_laws.proofs.Lemmas.Rules.{Limits, NestRelated}
use Rattle.layout_laws.proofs.Lemmas.Substitutions.{IsSubstituted, forward_related}
use Rattle.layout_laws.proofs.Lemmas.KeptRules.{by_parts, substituted_by_parts}
use Rattle.layout_laws.proofs.Lemmas.Lookups.{lookups_keep_parts}
use Rattle.buffer_parts.specs.Breaks.Lossless.{AreLossless}
use Rattle.buffer_parts.specs.Breaks.Divisible.{LosesNoFlag}
use Rattle.buffer_parts.proofs.BreakLemmas.Events.{both_lossless}
use Rattle.layout_laws.specs.Breaks.LookupsBeside.{LookupsReadBeside}
use Rattle.layout_laws.proofs.BreakLemmas.Passes.{pass_read, pass_events}
use Rattle.layout_laws.proofs.BreakLemmas.Divided.{passes_read_beside}
use Rattle.layout_laws.proofs.BreakLemmas.Lookups.{lookups_are_local}
use Rattle.layout_laws.proofs.BreakLemmas.Steady.{lookups_are_steady}

-- the events of an outcome lose no flag
abbrev pub LosesNone : Outcome → Type 0
LosesNone (Passes es) = (n : ℕ) → AreLossless es n
LosesNone (Acts d es) = (n : ℕ) → AreLossless es n
LosesNone (Refuses x) = Unit {0}

abbrev pub by_losing : Limits
by_losing = record {
  Index = Unit {0};
  Holds = λ i c o p. LosesNone o;
  limit = λ i c. c.max_len;
  scratch_flags = λ i c. c.scratch_flags;
  budget = λ i c. c.max_ops;
}

later_loses : (es : List Event) (o : Outcome) → ((n : ℕ) → AreLossless es n) → LosesNone o → LosesNone (later es o)
later_loses es (Passes fs) h k = λ n. both_lossless es fs n (h n) (k (count_after es n))
later_loses es (Acts d fs) h k = λ n. both_lossless es fs n (h n) (k (count_after es n))
later_loses es (Refuses x) h k = tt

either_loses : (o second : Outcome) → LosesNone o → LosesNone second → LosesNone (or_else o second)
either_loses (Passes es) second h k = later_loses es second h k
either_loses (Acts d es) second h k = h
either_loses (Refuses x) second h k = tt

limit_loses : (n : ℕ) (c : Cut) (o : Outcome) → LosesNone o → LosesNone (within_limit n c o)
limit_loses n c o h = by_test (nat_le (length c.front + n) c.max_len)
  where
    by_test : (t : Bool) → LosesNone (if t then o else Refuses TooLong)
    by_test true = h
    by_test false = tt

abbrev RecordsLoseNone : RecordsOutcome → Type 0
RecordsLoseNone (Walks d ps end es) = (n : ℕ) → AreLossless es n
RecordsLoseNone (Stops x) = Unit {0}

nested_loses : (i p : ℕ) (c : Cut) (ps : List ℕ) (end : ℕ) (q : Outcome) → LosesNone q → RecordsLoseNone (nested_outcome i p c ps end q)
nested_loses i p c ps end (Passes es) h = h
nested_loses i p c ps end (Acts d es) h = h
nested_loses i p c ps end (Refuses x) h = tt

index_loses : (act : ℕ → Action) → ((i : ℕ) (c : Cut) → LosesNone (act i c)) → (r : SequenceLookupRecord) (o : Option ℕ) (c : Cut) (ps : List ℕ) (end : ℕ) → RecordsLoseNone (outcome_at_index act r o c ps end)
index_loses act k r None c ps end = λ n. tt
index_loses act k r (Some p) c ps end = by_tests (nat_lt p (length (whole c)) && has_budget c) (holds p (with_budget_spent c))
  where
    by_tests : (t u : Bool) → RecordsLoseNone (if t then (if u then nested_outcome r.sequence_index p (cut_at p (with_budget_spent c)) ps end (act r.lookup_index (cut_at p (with_budget_spent c))) else Stops TooLong) else Walks c ps end [])
    by_tests false u = λ n. tt
    by_tests true false = tt
    by_tests true true = nested_loses r.sequence_index p (cut_at p (with_budget_spent c)) ps end (act r.lookup_index (cut_at p (with_budget_spent c))) (k r.lookup_index (cut_at p (with_budget_spent c)))

then_loses : (a : RecordsOutcome) (next : Cut → List ℕ → ℕ → RecordsOutcome) → RecordsLoseNone a → ((d : Cut) (ps : List ℕ) (to : ℕ) → RecordsLoseNone (next d ps to)) → RecordsLoseNone (then_walk a next)
then_loses (Stops x) next h k = tt
then_loses (Walks d ps to es) next h k = by_next (next d ps to) (k d ps to)
  where
    by_next : (b : RecordsOutcome) → RecordsLoseNone b → RecordsLoseNone (walked_later es b)
    by_next (Walks e qs end fs) g = λ n. both_lossless es fs n (h n) (g (count_after es n))
    by_next (Stops x) g = tt

each_loses : (act : ℕ → Action) → ((i : ℕ) (c : Cut) → LosesNone (act i c)) → (records : List SequenceLookupRecord) (c : Cut) (ps : List ℕ) (end : ℕ) → RecordsLoseNone (each_record act records c ps end)
each_loses act k [] c ps end = λ n. tt
each_loses act k (r ∷ records) c ps end = then_loses (one_record act r c ps end) (each_record act records) (index_loses act k r (slice_get ps r.sequence_index) c ps end) (λ d qs to. each_loses act k records d qs to)

match_loses : (a : RecordsOutcome) → RecordsLoseNone a → LosesNone (cut_after_match a)
match_loses (Stops x) h = tt
match_loses (Walks w ps end es) h = by_test (holds (min end (length (whole w))) w)
  where
    by_test : (t : Bool) → LosesNone (if t then Acts (cut_at (min end (length (whole w))) w) es else Refuses TooLong)
    by_test true = h
    by_test false = tt

nest_loses : (nest : Option (ℕ → Action)) (records : List SequenceLookupRecord) (ps : List ℕ) (end : ℕ) (c : Cut) → NestRelated by_losing nest → LosesNone (cut_after_match (each_nested nest records c ps end))
nest_loses None records ps end c k = match_loses (Walks c ps end []) (λ n. tt)
nest_loses (Some act) records ps end c k = match_loses (each_nested (Some act) records c ps end) (each_loses act (λ i d. k i tt d) records c ps end)

one_loses : (gdef : GlyphDefinition) (o : Option ℕ) (c : Cut) → LosesNone (single_substitution gdef o c)
one_loses gdef None c = λ n. tt
one_loses gdef (Some glyph) c = limit_loses 1 c (Acts (cut_with_substitute gdef glyph c) []) (λ n. tt)

deletions_lose : (at gone : ℕ) (places : List ℕ) (n : ℕ) → AreLossless (component_deletions at gone places) n
deletions_lose at gone [] n = tt
deletions_lose at gone (i ∷ places) n = (tt, deletions_lose at (gone + 1) places _)

pub losing_substituted : IsSubstituted by_losing
losing_substituted = record {
  closed = record {
    passes = λ i c n. tt;
    attempts = λ i back ahead c n. (tt, tt);
    either = λ i c o p second third f g. either_loses o second f g;
    breaks = λ i from to c o p f. later_loses (Break from to ∷ []) o (λ n. (tt, tt)) f;
    nested = λ i nest records ps end c k. nest_loses nest records ps end c k;
  };
  one = λ i gdef glyph c. one_loses gdef (Some glyph) c;
  drawn = λ i gdef glyphs c. later_loses (Break 0 (length (whole c)) ∷ []) (single_substitution gdef (slice_get glyphs (next_random c.random % length glyphs)) (record c { random = next_random c.random })) (λ n. (tt, tt)) (one_loses gdef (slice_get glyphs (next_random c.random % length glyphs)) (record c { random = next_random c.random }));
  several = λ i gdef glyph next more x c there. limit_loses (length (glyph ∷ next ∷ more)) c (Acts _ _) (λ n. (tt, tt));
  none = λ i x c there n. (tt, (tt, tt));
  ligature = λ i a glyph end tests x c there found. limit_loses _ c (Acts _ _) (λ n. (tt, deletions_lose (length c.front) 0 _ n));
  there = λ i gdef glyph ahead back c n. (tt, tt);
}

-- ---- all indices

abbrev pub AllLossless : Reading → Type 0
AllLossless (Ok r) = (level : BufferClusterLevel) (n : ℕ) → AreLossless (r.events level) n
AllLossless (Err x) = Unit {0}

then_lossless : (es : List Event) (v : View) (next : Reading) → ((n : ℕ) → AreLossless es n) → AllLossless next → AllLossless (then_reading (with_events es v) next)
then_lossless es v (Ok r) h k = λ level n. both_lossless es (r.events level) n (h n) (k level (count_after es n))
then_lossless es v (Err x) h k = tt

past_loses : (o : Outcome) (c : Cut) → LosesNone o → LosesNone (outcome_past_item o c)
past_loses (Passes es) c h = limit_loses 1 c (Acts (past_item c) es) h
past_loses (Acts d es) c h = h
past_loses (Refuses x) c h = tt

pub after_lossless : (o : Outcome) (next : Cut → Reading) (v : View) (c : Cut) → LosesNone o → ((d : Cut) → AllLossless (next d)) → AllLossless (after_outcome o next v c)
after_lossless (Passes es) next v c h k = then_lossless es (view_at v c) (next c) h (k c)
after_lossless (Acts d es) next v c h k = then_lossless es (view_at v d) (next d) h (k d)
after_lossless (Refuses x) next v c h k = tt

trial_lossless : (act : Action) → ((c : Cut) → LosesNone (act c)) → (next : Cut → Reading) (v : View) (xs : List Item) (c : Cut) → ((d : Cut) → AllLossless (next d)) → AllLossless (trial_at act next v xs c)
trial_lossless act h next v [] c k = λ level n. tt
trial_lossless act h next v (x ∷ xs) c k = after_lossless (outcome_past_item (act c) c) next v c (past_loses (act c) c (h c)) k

pub trials_lossless : (act : Action) → ((c : Cut) → LosesNone (act c)) → (v : View) (n : ℕ) (c : Cut) → AllLossless (trials act v n c)
trials_lossless act h v zero c = λ level n. tt
trials_lossless act h v (suc n) c = trial_lossless act h (trials act v n) v c.rest c (λ d. trials_lossless act h v n d)

pub passes_lose_none : (act : Action) → ((c : Cut) → LosesNone (act c)) → LosesNoFlag (forward_pass act)
passes_lose_none act h v r level e =
    let p = pass_read act v r e in
    let walk : AllLossless (Ok p.walk) = subst AllLossless p.walk_is (trials_lossless act h v (length v.items) (uncut v)) in
    subst (λ (es : List Event). AreLossless es (length v.items)) (pass_events act v r p level) (walk level (length v.items))

-- ---- lookups

pub lookups_read_beside : LookupsReadBeside
lookups_read_beside falls table a lookup =
    passes_read_beside falls (lookup_action table a lookup) (lookups_are_local table a lookup) (lookups_are_steady table a lookup) (lookups_keep_parts (lookup_action table a lookup) (forward_related by_parts tt substituted_by_parts table a lookup))
    (passes_lose_none (lookup_action table a lookup) (forward_related by_losing tt losing_substituted table a lookup))

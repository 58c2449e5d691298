-- Lookups reverse no list.
use Rattle.std.proofs.Common.{ℕ, zero, suc, ◌≡◌, ◌+◌, ◌&&◌, Bool, true, false, nat_le, nat_lt, min, if◌then◌else◌, List, [], ◌∷◌, ◌++◌, Option, Some, None, length, drop, Ok, Err, refl, subst}
use Rattle.std.specs.Prelude.{slice_get, ◌%◌}
use Rattle.buffer_common.specs.declared.direction.Direction.{Direction}
use Rattle.buffer_glyphs.specs.declared.cause.ShapeCause.TheVariants.{TooLong}
use Rattle.buffer_glyphs.specs.declared.level.BufferClusterLevel.{BufferClusterLevel}
use Rattle.buffer_glyphs.specs.Levels.{IsMonotone}
use Rattle.buffer_glyphs.specs.Items.{Item}
use Rattle.buffer_glyphs.specs.Events.{Event, Break, Replace}
use Rattle.buffer_parts.specs.Turns.{IsUnturned}
use Rattle.buffer_parts.specs.Lemmas.Turns.{unturned_in_turn}
use Rattle.buffer_core.specs.Readings.{View, Read, Reading, Stage, then_reading, and_then, always, with_events}
use Rattle.layout_face.specs.declared.parts.GlyphDefinition.{GlyphDefinition}
use Rattle.layout_tables.specs.declared.context.SequenceLookupRecord.{SequenceLookupRecord}
use Rattle.buffer_stages.specs.Actions.{Cut, whole, view_at, uncut, uncut_with_positions, past_item, Outcome, Passes, Acts, Refuses, Action, within_limit, later, or_else}
use Rattle.buffer_stages.specs.Pauses.{with_own_random}
use Rattle.layout_match.specs.Applied.{own_search, next_random}
use Rattle.layout_match.specs.Matches.{input_indices}
use Rattle.layout_match.specs.Trying.{after_outcome, outcome_past_item, trial_at, trials, with_zero_positions, whole_list, forward_pass}
use Rattle.layout_contexts.specs.Nested.{RecordsOutcome, Walks, Stops, cut_at as nested_cut, holds, has_budget, with_budget_spent, nested_outcome, nested_outcome_at, outcome_at_index, one_record, walked_later, then_walk, each_record, each_nested, cut_after_match}
use Rattle.layout_gsub.specs.Alternates.{drawn_alternate}
use Rattle.layout_gsub.specs.Ligating.{component_deletions}
use Rattle.layout_gsub.specs.Multiples.{cut_with_multiple}
use Rattle.layout_gsub.specs.Replacements.{single_substitution, cut_with_substitute}
use Rattle.layout_substitution.specs.Lookups.{cut_at_index, backward_trials, backward_pass}
use Rattle.layout_positioning.specs.Lookups.{positioning_pass}
use Rattle.buffer_parts.specs.Stages.{StaysUnturned}
use Rattle.buffer_parts.specs.Lemmas.Stages.{at_read, both_read, same_unturned, stages_stay_unturned}
use Rattle.layout_laws.proofs.Lemmas.Rules.{Limits, NestRelated, IsClosed}
use Rattle.layout_laws.proofs.Lemmas.Substitutions.{IsSubstituted, forward_related, backward_related}
use Rattle.layout_laws.proofs.Lemmas.Positionings.{IsPositioned, action_related}
use Rattle.layout_laws.proofs.Lemmas.Ligatures.{items_between_components, ligated_cut, ligated_events}
use Rattle.layout_laws.proofs.Lemmas.Stages.{IsOfStages, AreSubstituting, ArePositioning, substituted_has, positioned_has}
use Rattle.layout_laws.specs.Parts.{SubstitutionStaysUnturned, PositioningStaysUnturned}

-- ---- rules

-- no event of an outcome reverses the list
abbrev OutcomeUnturned : Outcome → Type 0
OutcomeUnturned (Passes es) = IsUnturned es
OutcomeUnturned (Acts c es) = IsUnturned es
OutcomeUnturned (Refuses x) = Unit {0}

abbrev RuleUnturned : Action → Type 0
RuleUnturned act = (c : Cut) → OutcomeUnturned (act c)

limit_unturned : (n : ℕ) (c : Cut) (o : Outcome) → OutcomeUnturned o → OutcomeUnturned (within_limit n c o)
limit_unturned n c o p = elim (nat_le (length c.front + n) c.max_len) as (λ t. OutcomeUnturned (if t then o else Refuses TooLong)) [ true ↦ p | false ↦ tt ]

later_unturned : (es : List Event) (o : Outcome) → IsUnturned es → OutcomeUnturned o → OutcomeUnturned (later es o)
later_unturned es (Passes fs) p q = unturned_in_turn es fs p q
later_unturned es (Acts c fs) p q = unturned_in_turn es fs p q
later_unturned es (Refuses x) p q = tt

or_else_unturned : (o second : Outcome) → OutcomeUnturned o → OutcomeUnturned second → OutcomeUnturned (or_else o second)
or_else_unturned (Passes es) second p q = later_unturned es second p q
or_else_unturned (Acts c es) second p q = p
or_else_unturned (Refuses x) second p q = tt

-- ---- nested lookups

abbrev WalkUnturned : RecordsOutcome → Type 0
WalkUnturned (Walks c ps end es) = IsUnturned es
WalkUnturned (Stops x) = Unit {0}

there_unturned : (i p : ℕ) (c : Cut) (ps : List ℕ) (end : ℕ) (o : Outcome) → OutcomeUnturned o → WalkUnturned (nested_outcome i p c ps end o)
there_unturned i p c ps end (Passes es) k = k
there_unturned i p c ps end (Acts d es) k = k
there_unturned i p c ps end (Refuses x) k = tt

at_unturned : (act : ℕ → Action) (r : SequenceLookupRecord) (p : ℕ) (c : Cut) (ps : List ℕ) (end : ℕ) → ((i : ℕ) → RuleUnturned (act i)) → WalkUnturned (nested_outcome_at act r p c ps end)
at_unturned act r p c ps end k = elim (holds p c) as (λ t. WalkUnturned (if t then nested_outcome r.sequence_index p (nested_cut p c) ps end (act r.lookup_index (nested_cut p c)) else Stops TooLong)) [
  | true ↦ there_unturned r.sequence_index p (nested_cut p c) ps end (act r.lookup_index (nested_cut p c)) (k r.lookup_index (nested_cut p c))
  | false ↦ tt
]

at_index_unturned : (act : ℕ → Action) (r : SequenceLookupRecord) (o : Option ℕ) (c : Cut) (ps : List ℕ) (end : ℕ) → ((i : ℕ) → RuleUnturned (act i)) → WalkUnturned (outcome_at_index act r o c ps end)
at_index_unturned act r None c ps end k = tt
at_index_unturned act r (Some p) c ps end k = elim (nat_lt p (length (whole c)) && has_budget c) as (λ t. WalkUnturned (if t then nested_outcome_at act r p (with_budget_spent c) ps end else Walks c ps end [])) [ true ↦ at_unturned act r p (with_budget_spent c) ps end k | false ↦ tt ]

later_walk_unturned : (es : List Event) (w : RecordsOutcome) → IsUnturned es → WalkUnturned w → WalkUnturned (walked_later es w)
later_walk_unturned es (Walks c ps end fs) p q = unturned_in_turn es fs p q
later_walk_unturned es (Stops x) p q = tt

then_walk_unturned : (w : RecordsOutcome) (next : Cut → List ℕ → ℕ → RecordsOutcome) → WalkUnturned w → ((d : Cut) (ps : List ℕ) (end : ℕ) → WalkUnturned (next d ps end)) → WalkUnturned (then_walk w next)
then_walk_unturned (Walks c ps end es) next p q = later_walk_unturned es (next c ps end) p (q c ps end)
then_walk_unturned (Stops x) next p q = tt

each_unturned : (act : ℕ → Action) (records : List SequenceLookupRecord) → ((i : ℕ) → RuleUnturned (act i)) → (c : Cut) (ps : List ℕ) (end : ℕ) → WalkUnturned (each_record act records c ps end)
each_unturned act [] k c ps end = tt
each_unturned act (r ∷ records) k c ps end = then_walk_unturned (one_record act r c ps end) (each_record act records) (at_index_unturned act r (slice_get ps r.sequence_index) c ps end k) (each_unturned act records k)

after_match_unturned : (w : RecordsOutcome) → WalkUnturned w → OutcomeUnturned (cut_after_match w)
after_match_unturned (Walks c ps end es) p = elim (holds (min end (length (whole c))) c) as (λ t. OutcomeUnturned (if t then Acts (nested_cut (min end (length (whole c))) c) es else Refuses TooLong)) [ true ↦ p | false ↦ tt ]
after_match_unturned (Stops x) p = tt

-- ---- all rules

-- of a rule at a cut, with no other limits
abbrev by_turns : Limits
by_turns = record {
  Index = Unit {0};
  Holds = λ i c o p. OutcomeUnturned o;
  limit = λ i c. c.max_len;
  scratch_flags = λ i c. c.scratch_flags;
  budget = λ i c. c.max_ops;
}

nested_unturned : (nest : Option (ℕ → Action)) (records : List SequenceLookupRecord) (ps : List ℕ) (end : ℕ) (c : Cut) → NestRelated by_turns nest → OutcomeUnturned (cut_after_match (each_nested nest records c ps end))
nested_unturned None records ps end c k = after_match_unturned (Walks c ps end []) tt
nested_unturned (Some act) records ps end c k = after_match_unturned (each_record act records c ps end) (each_unturned act records (λ n d. k n tt d) c ps end)

closed_by_turns : IsClosed by_turns
closed_by_turns = record {
  passes = λ i c. tt;
  attempts = λ i back ahead c. tt;
  either = λ i c o p second third f g. or_else_unturned o second f g;
  breaks = λ i from to c o p f. later_unturned (Break from to ∷ []) o tt f;
  nested = λ i nest records ps end c k. nested_unturned nest records ps end c k;
}

one_unturned : (gdef : GlyphDefinition) (o : Option ℕ) → RuleUnturned (single_substitution gdef o)
one_unturned gdef None c = tt
one_unturned gdef (Some glyph) c = limit_unturned 1 c (Acts (cut_with_substitute gdef glyph c) []) tt

drawn_unturned : (gdef : GlyphDefinition) (glyphs : List ℕ) → RuleUnturned (drawn_alternate gdef glyphs)
drawn_unturned gdef glyphs c =
    let o : Option ℕ = slice_get glyphs (next_random c.random % length glyphs) in
    later_unturned (Break 0 (length (whole c)) ∷ []) (single_substitution gdef o (record c { random = next_random c.random })) tt (one_unturned gdef o (record c { random = next_random c.random }))

component_deletions_unturned : (at n : ℕ) (places : List ℕ) → IsUnturned (component_deletions at n places)
component_deletions_unturned at n [] = tt
component_deletions_unturned at n (i ∷ places) = component_deletions_unturned at (n + 1) places

substituted_by_turns : IsSubstituted by_turns
substituted_by_turns = record {
  closed = closed_by_turns;
  one = λ i gdef glyph c. one_unturned gdef (Some glyph) c;
  drawn = λ i gdef glyphs c. drawn_unturned gdef glyphs c;
  several = λ i gdef glyph next more x c there. limit_unturned (length (glyph ∷ next ∷ more)) c (Acts (cut_with_multiple gdef (glyph ∷ next ∷ more) c) (Replace (length c.front) 1 (length (glyph ∷ next ∷ more)) ∷ [])) tt;
  none = λ i x c there. tt;
  ligature = λ i a glyph end tests x c there found. limit_unturned (1 + length (items_between_components (input_indices (own_search a c.rest) tests c.rest) c)) c (Acts (ligated_cut a.font.gdef glyph (input_indices (own_search a c.rest) tests c.rest) end c) (ligated_events (input_indices (own_search a c.rest) tests c.rest) end c)) (component_deletions_unturned (length c.front) 0 (drop 1 (input_indices (own_search a c.rest) tests c.rest)));
  there = λ i gdef glyph ahead back c. tt;
}

positioned_by_turns : IsPositioned by_turns
positioned_by_turns = record {
  closed = closed_by_turns;
  placed = λ i n ps c. tt;
  broken = λ i n back ahead ps c. tt;
  strictly_broken = λ i n ahead ps c. tt;
  attached = λ i near n back ahead ps c. tt;
}

-- ---- stages

-- no event of what is read reverses the list
abbrev ReadUnturned : Reading → Type 0
ReadUnturned a = (r : Read) (level : BufferClusterLevel) → IsMonotone level → a ≡ Ok r → IsUnturned (r.events level)

read_unturned : (es : List Event) (v : View) → IsUnturned es → ReadUnturned (Ok (with_events es v))
read_unturned es v p r level mono e = at_read (λ q. IsUnturned (q.events level)) (with_events es v) r e p

then_unturned : (es : List Event) (v : View) (next : Reading) → IsUnturned es → ReadUnturned next → ReadUnturned (then_reading (with_events es v) next)
then_unturned es v (Ok s) p q r level mono e = at_read (λ t. IsUnturned (t.events level)) (record { view = s.view; events = λ l. es ++ s.events l }) r e (unturned_in_turn es (s.events level) p (q s level mono refl))
then_unturned es v (Err x) p q r level mono e = cc

and_then_unturned : (a : Reading) (t : Stage) → ReadUnturned a → StaysUnturned t → ReadUnturned (and_then a t)
and_then_unturned a t p q r level mono e =
    let two = both_read a t r e in
    at_both two.both (unturned_in_turn (two.first.events level) (two.second.events level) (p two.first level mono two.first_is) (q two.first.view two.second level mono two.second_is))
  where
    at_both : {s : Read} → s ≡ r → IsUnturned (s.events level) → IsUnturned (r.events level)
    at_both same k = subst (λ (w : Read). IsUnturned (w.events level)) same k

over_unturned : (c : Cut) (o : Outcome) → OutcomeUnturned o → OutcomeUnturned (outcome_past_item o c)
over_unturned c (Passes es) p = limit_unturned 1 c (Acts (past_item c) es) p
over_unturned c (Acts d es) p = p
over_unturned c (Refuses x) p = tt

after_unturned : (o : Outcome) (next : Cut → Reading) (v : View) (c : Cut) → OutcomeUnturned o → ((d : Cut) → ReadUnturned (next d)) → ReadUnturned (after_outcome o next v c)
after_unturned (Passes es) next v c p q = then_unturned es (view_at v c) (next c) p (q c)
after_unturned (Acts d es) next v c p q = then_unturned es (view_at v d) (next d) p (q d)
after_unturned (Refuses x) next v c p q = λ r level mono e. cc

before_unturned : (act : Action) (next : Cut → Reading) (v : View) (rest : List Item) (c : Cut) → RuleUnturned act → ((d : Cut) → ReadUnturned (next d)) → ReadUnturned (trial_at act next v rest c)
before_unturned act next v [] c p q = read_unturned [] (view_at v c) tt
before_unturned act next v (x ∷ rest) c p q = after_unturned (outcome_past_item (act c) c) next v c (over_unturned c (act c) (p c)) q

tried_unturned : (act : Action) (v : View) (n : ℕ) → RuleUnturned act → (c : Cut) → ReadUnturned (trials act v n c)
tried_unturned act v zero p c = read_unturned [] (view_at v c) tt
tried_unturned act v (suc n) p c = before_unturned act (trials act v n) v c.rest c p (tried_unturned act v n p)

joined_unturned : StaysUnturned whole_list
joined_unturned v r level mono e = by_test (nat_le (length v.items) v.max_len) e
  where
    by_test : (t : Bool) → ◌≡◌ {A = Reading} (if t then Ok (with_zero_positions v) else Err TooLong) (Ok r) → IsUnturned (r.events level)
    by_test true d = at_read (λ q. IsUnturned (q.events level)) (with_zero_positions v) r d tt
    by_test false d = cc

back_unturned : (act : Action) (v : View) (n : ℕ) → RuleUnturned act → (c : Cut) → ReadUnturned (backward_trials act v n c)
back_unturned act v zero p c = read_unturned [] (view_at v c) tt
back_unturned act v (suc n) p c = after_unturned (act (cut_at_index n c)) (backward_trials act v n) v (cut_at_index n c) (p (cut_at_index n c)) (back_unturned act v n p)

up_unturned : (act : Action) → RuleUnturned act → StaysUnturned (forward_pass act)
up_unturned act p v = and_then_unturned (trials act v (length v.items) (uncut v)) whole_list (tried_unturned act v (length v.items) p (uncut v)) joined_unturned

down_unturned : (act : Action) → RuleUnturned act → StaysUnturned (backward_pass act)
down_unturned act p v = back_unturned act v (length v.items) p (uncut_with_positions v)

along_unturned : (act : Direction → Action) → ((d : Direction) → RuleUnturned (act d)) → StaysUnturned (λ v. positioning_pass (act v.direction) v)
along_unturned act p v = tried_unturned (act v.direction) v (length v.items) (p v.direction) (uncut_with_positions v)

-- the stage that puts the random state back
abbrev restoration : ℕ → Stage
restoration n = always (λ w. with_events [] (record w { random = n }))

own_unturned : (stage : Stage) → StaysUnturned stage → StaysUnturned (with_own_random stage)
own_unturned stage p v = and_then_unturned (stage (record v { random = 1 })) (restoration v.random) (p (record v { random = 1 })) (λ w. read_unturned [] (record w { random = v.random }) tt)

stages_unturned : IsOfStages StaysUnturned RuleUnturned
stages_unturned = record { same = same_unturned; both = stages_stay_unturned; up = up_unturned; back = down_unturned; over = along_unturned; own = own_unturned }

substituting_unturned : AreSubstituting RuleUnturned
substituting_unturned = record {
  up = λ table a lookup. forward_related by_turns tt substituted_by_turns table a lookup;
  back = λ a lookup. backward_related by_turns tt substituted_by_turns a lookup;
}

positioning_unturned : ArePositioning RuleUnturned
positioning_unturned = record { over = λ table d a lookup. action_related by_turns tt positioned_by_turns table d a lookup }

pub substitution_stays_unturned : SubstitutionStaysUnturned
substitution_stays_unturned = substituted_has StaysUnturned RuleUnturned stages_unturned substituting_unturned

pub positioning_stays_unturned : PositioningStaysUnturned
positioning_stays_unturned = positioned_has StaysUnturned RuleUnturned stages_unturned positioning_unturned

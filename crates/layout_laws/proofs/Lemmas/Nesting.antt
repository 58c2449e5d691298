-- Units of the budget that lookups take.
use Rattle.std.proofs.Common.{ℕ, zero, suc, ℤ, pos, negsuc, ◌≡◌, ◌≤◌, ◌+◌, ◌-◌, ◌-ℤ◌, ◌&&◌, Bool, true, false, nat_le, nat_lt, min, if◌then◌else◌, List, [], ◌∷◌, Option, Some, None, length, Ok, Err, arith, refl, subst}
use Rattle.std.specs.Prelude.{slice_get, ◌%◌}
use Rattle.std.proofs.lemmas.Int.{ints}
use Rattle.buffer_common.specs.declared.direction.Direction.{Direction}
use Rattle.buffer_glyphs.specs.declared.cause.ShapeCause.TheVariants.{TooLong}
use Rattle.buffer_glyphs.specs.Items.{Item}
use Rattle.buffer_glyphs.specs.Events.{Event, Break, Replace}
use Rattle.buffer_core.specs.Readings.{View, Read, Reading, Stage, then_reading, and_then, as_it_is, always, with_events}
use Rattle.layout_tables.specs.declared.context.SequenceLookupRecord.{SequenceLookupRecord}
use Rattle.buffer_stages.specs.Actions.{Cut, whole, view_at, uncut, uncut_with_positions, past_item, Outcome, Passes, Acts, Refuses, Action, within_limit, later, or_else}
use Rattle.buffer_stages.specs.Pauses.{with_own_random}
use Rattle.layout_match.specs.Applied.{own_search, next_random}
use Rattle.layout_match.specs.Matches.{input_indices}
use Rattle.layout_match.specs.Trying.{after_outcome, outcome_past_item, trial_at, trials, with_zero_positions, whole_list, forward_pass}
use Rattle.layout_contexts.specs.Nested.{RecordsOutcome, Walks, Stops, cut_at as nested_cut, holds, has_budget, with_budget_spent, nested_outcome, nested_outcome_at, outcome_at_index, one_record, walked_later, then_walk, each_record, each_nested, cut_after_match}
use Rattle.layout_gsub.specs.Alternates.{drawn_alternate}
use Rattle.layout_gsub.specs.Multiples.{cut_with_multiple}
use Rattle.layout_gsub.specs.Replacements.{single_substitution, cut_with_substitute}
use Rattle.layout_face.specs.declared.parts.GlyphDefinition.{GlyphDefinition}
use Rattle.layout_substitution.specs.Lookups.{cut_at_index, backward_trials, backward_pass}
use Rattle.layout_positioning.specs.Lookups.{positioning_pass}
use Rattle.buffer_parts.specs.Counting.{is_left}
use Rattle.buffer_parts.specs.Lemmas.Stages.{same_read, both_read}
use Rattle.layout_laws.specs.Nesting.{IsTaken, TakesWithinBudget, NestsWithinBudget}
use Rattle.layout_laws.proofs.Lemmas.Rules.{Limits, NestRelated, IsClosed}
use Rattle.layout_laws.proofs.Lemmas.Substitutions.{IsSubstituted, forward_related, backward_related}
use Rattle.layout_laws.proofs.Lemmas.Positionings.{IsPositioned, action_related}
use Rattle.layout_laws.proofs.Lemmas.Ligatures.{items_between_components, ligated_cut, ligated_events}
use Rattle.layout_laws.proofs.Lemmas.Stages.{IsOfStages, AreSubstituting, ArePositioning, substituted_has, positioned_has}

-- ---- numbers

nothing_taken : (k : ℤ) → IsTaken k k
nothing_taken k = record { taken = 0; sum = omega (arith, ints); none = λ e. refl; within = λ n e. omega arith }

-- one unit, while one is left
one_taken : (k : ℤ) → is_left k ≡ true → IsTaken k (k -ℤ pos 1)
one_taken (pos zero) e = cc
one_taken (pos (suc n)) e = record { taken = 1; sum = omega (arith, ints); none = λ g. cc; within = λ m g. let same : suc n ≡ m = cc in omega (arith, same) }
one_taken (negsuc n) e = cc

taken_left : (k : ℕ) (given left : ℤ) → given ≡ pos k → (t : IsTaken given left) → left ≡ pos (k - t.taken)
taken_left k given left e t = let le = t.within k e in let sum = t.sum in omega (arith, ints, e, le, sum)

-- units taken before, and after that
taken_in_turn : (a b c : ℤ) → IsTaken a b → IsTaken b c → IsTaken a c
taken_in_turn a b c p q = record {
  taken = p.taken + q.taken;
  sum = let x = p.sum in let y = q.sum in omega (arith, ints, x, y);
  none = λ e. none e;
  within = λ k e. within k e;
}
  where
    none : is_left a ≡ false → p.taken + q.taken ≡ 0
    none e =
        let first = p.none e in
        let same : a ≡ b = (let x = p.sum in omega (arith, ints, x, first)) in
        let second = q.none (subst (λ (z : ℤ). is_left z ≡ false) same e) in
        omega (arith, first, second)

    within : (k : ℕ) → a ≡ pos k → p.taken + q.taken ≤ k
    within k e = let first = p.within k e in let second = q.within (k - p.taken) (taken_left k a b e p) in omega (arith, first, second)

-- ---- rules

abbrev OutcomeTakes : ℤ → Outcome → Type 0
OutcomeTakes k (Passes es) = Unit {0}
OutcomeTakes k (Acts c es) = IsTaken k c.max_ops
OutcomeTakes k (Refuses x) = Unit {0}

-- what a rule takes of the budget of its cut
abbrev RuleTakes : Action → Type 0
RuleTakes act = (c : Cut) → OutcomeTakes c.max_ops (act c)

limit_takes : (n : ℕ) (k : ℤ) (c : Cut) (o : Outcome) → OutcomeTakes k o → OutcomeTakes k (within_limit n c o)
limit_takes n k c o p = elim (nat_le (length c.front + n) c.max_len) as (λ t. OutcomeTakes k (if t then o else Refuses TooLong)) [ true ↦ p | false ↦ tt ]

later_takes : (k : ℤ) (es : List Event) (o : Outcome) → OutcomeTakes k o → OutcomeTakes k (later es o)
later_takes k es (Passes fs) p = tt
later_takes k es (Acts c fs) p = p
later_takes k es (Refuses x) p = tt

or_else_takes : (k : ℤ) (o second : Outcome) → OutcomeTakes k o → OutcomeTakes k second → OutcomeTakes k (or_else o second)
or_else_takes k (Passes es) second p q = later_takes k es second q
or_else_takes k (Acts c es) second p q = p
or_else_takes k (Refuses x) second p q = tt

-- ---- nested lookups

abbrev WalkTakes : ℤ → RecordsOutcome → Type 0
WalkTakes k (Walks c ps end es) = IsTaken k c.max_ops
WalkTakes k (Stops x) = Unit {0}

there_takes : (i p : ℕ) (c : Cut) (ps : List ℕ) (end : ℕ) (o : Outcome) → OutcomeTakes c.max_ops o → WalkTakes c.max_ops (nested_outcome i p c ps end o)
there_takes i p c ps end (Passes es) k = nothing_taken c.max_ops
there_takes i p c ps end (Acts d es) k = k
there_takes i p c ps end (Refuses x) k = tt

at_takes : (act : ℕ → Action) (r : SequenceLookupRecord) (p : ℕ) (c : Cut) (ps : List ℕ) (end : ℕ) → ((i : ℕ) → RuleTakes (act i)) → WalkTakes c.max_ops (nested_outcome_at act r p c ps end)
at_takes act r p c ps end k = elim (holds p c) as (λ t. WalkTakes c.max_ops (if t then nested_outcome r.sequence_index p (nested_cut p c) ps end (act r.lookup_index (nested_cut p c)) else Stops TooLong)) [
  | true ↦ there_takes r.sequence_index p (nested_cut p c) ps end (act r.lookup_index (nested_cut p c)) (k r.lookup_index (nested_cut p c))
  | false ↦ tt
]

-- after a unit was taken
walk_before : (j k : ℤ) (w : RecordsOutcome) → IsTaken j k → WalkTakes k w → WalkTakes j w
walk_before j k (Walks c ps end es) p q = taken_in_turn j k c.max_ops p q
walk_before j k (Stops x) p q = tt

at_index_takes : (act : ℕ → Action) (r : SequenceLookupRecord) (o : Option ℕ) (c : Cut) (ps : List ℕ) (end : ℕ) → ((i : ℕ) → RuleTakes (act i)) → WalkTakes c.max_ops (outcome_at_index act r o c ps end)
at_index_takes act r None c ps end k = nothing_taken c.max_ops
at_index_takes act r (Some p) c ps end k = by_tests (nat_lt p (length (whole c))) (has_budget c) refl
  where
    by_tests : (a b : Bool) → is_left c.max_ops ≡ b → WalkTakes c.max_ops (if a && b then nested_outcome_at act r p (with_budget_spent c) ps end else Walks c ps end [])
    by_tests false b e = nothing_taken c.max_ops
    by_tests true false e = nothing_taken c.max_ops
    by_tests true true e = walk_before c.max_ops (c.max_ops -ℤ pos 1) (nested_outcome_at act r p (with_budget_spent c) ps end) (one_taken c.max_ops e) (at_takes act r p (with_budget_spent c) ps end k)

later_walk_takes : (k : ℤ) (es : List Event) (w : RecordsOutcome) → WalkTakes k w → WalkTakes k (walked_later es w)
later_walk_takes k es (Walks c ps end fs) p = p
later_walk_takes k es (Stops x) p = tt

then_walk_takes : (k : ℤ) (w : RecordsOutcome) (next : Cut → List ℕ → ℕ → RecordsOutcome) → WalkTakes k w → ((d : Cut) (ps : List ℕ) (end : ℕ) → WalkTakes d.max_ops (next d ps end)) → WalkTakes k (then_walk w next)
then_walk_takes k (Walks c ps end es) next p q = later_walk_takes k es (next c ps end) (walk_before k c.max_ops (next c ps end) p (q c ps end))
then_walk_takes k (Stops x) next p q = tt

each_takes : (act : ℕ → Action) (records : List SequenceLookupRecord) (c : Cut) (ps : List ℕ) (end : ℕ) → ((i : ℕ) → RuleTakes (act i)) → WalkTakes c.max_ops (each_record act records c ps end)
each_takes act [] c ps end k = nothing_taken c.max_ops
each_takes act (r ∷ records) c ps end k = then_walk_takes c.max_ops (one_record act r c ps end) (each_record act records) (at_index_takes act r (slice_get ps r.sequence_index) c ps end k) (λ d qs to. each_takes act records d qs to k)

after_match_takes : (k : ℤ) (w : RecordsOutcome) → WalkTakes k w → OutcomeTakes k (cut_after_match w)
after_match_takes k (Walks c ps end es) p = elim (holds (min end (length (whole c))) c) as (λ t. OutcomeTakes k (if t then Acts (nested_cut (min end (length (whole c))) c) es else Refuses TooLong)) [ true ↦ p | false ↦ tt ]
after_match_takes k (Stops x) p = tt

-- ---- all rules

abbrev by_taken : Limits
by_taken = record {
  Index = Unit {0};
  Holds = λ i c o p. OutcomeTakes c.max_ops o;
  limit = λ i c. c.max_len;
  scratch_flags = λ i c. c.scratch_flags;
  budget = λ i c. c.max_ops;
}

nested_takes : (nest : Option (ℕ → Action)) (records : List SequenceLookupRecord) (ps : List ℕ) (end : ℕ) (c : Cut) → NestRelated by_taken nest → OutcomeTakes c.max_ops (cut_after_match (each_nested nest records c ps end))
nested_takes None records ps end c k = after_match_takes c.max_ops (Walks c ps end []) (nothing_taken c.max_ops)
nested_takes (Some act) records ps end c k = after_match_takes c.max_ops (each_record act records c ps end) (each_takes act records c ps end (λ n d. k n tt d))

closed_by_taken : IsClosed by_taken
closed_by_taken = record {
  passes = λ i c. tt;
  attempts = λ i back ahead c. tt;
  either = λ i c o p second third f g. or_else_takes c.max_ops o second f g;
  breaks = λ i from to c o p f. later_takes c.max_ops (Break from to ∷ []) o f;
  nested = λ i nest records ps end c k. nested_takes nest records ps end c k;
}

one_takes : (gdef : GlyphDefinition) (o : Option ℕ) → RuleTakes (single_substitution gdef o)
one_takes gdef None c = tt
one_takes gdef (Some glyph) c = limit_takes 1 c.max_ops c (Acts (cut_with_substitute gdef glyph c) []) (nothing_taken c.max_ops)

drawn_takes : (gdef : GlyphDefinition) (glyphs : List ℕ) → RuleTakes (drawn_alternate gdef glyphs)
drawn_takes gdef glyphs c =
    let o : Option ℕ = slice_get glyphs (next_random c.random % length glyphs) in
    later_takes c.max_ops (Break 0 (length (whole c)) ∷ []) (single_substitution gdef o (record c { random = next_random c.random })) (one_takes gdef o (record c { random = next_random c.random }))

substituted_by_taken : IsSubstituted by_taken
substituted_by_taken = record {
  closed = closed_by_taken;
  one = λ i gdef glyph c. one_takes gdef (Some glyph) c;
  drawn = λ i gdef glyphs c. drawn_takes gdef glyphs c;
  several = λ i gdef glyph next more x c there. limit_takes (length (glyph ∷ next ∷ more)) c.max_ops c (Acts (cut_with_multiple gdef (glyph ∷ next ∷ more) c) (Replace (length c.front) 1 (length (glyph ∷ next ∷ more)) ∷ [])) (nothing_taken c.max_ops);
  none = λ i x c there. nothing_taken c.max_ops;
  ligature = λ i a glyph end tests x c there found. limit_takes (1 + length (items_between_components (input_indices (own_search a c.rest) tests c.rest) c)) c.max_ops c (Acts (ligated_cut a.font.gdef glyph (input_indices (own_search a c.rest) tests c.rest) end c) (ligated_events (input_indices (own_search a c.rest) tests c.rest) end c)) (nothing_taken c.max_ops);
  there = λ i gdef glyph ahead back c. nothing_taken c.max_ops;
}

positioned_by_taken : IsPositioned by_taken
positioned_by_taken = record {
  closed = closed_by_taken;
  placed = λ i n ps c. nothing_taken c.max_ops;
  broken = λ i n back ahead ps c. nothing_taken c.max_ops;
  strictly_broken = λ i n ahead ps c. nothing_taken c.max_ops;
  attached = λ i near n back ahead ps c. nothing_taken c.max_ops;
}

-- ---- stages

-- what is read takes of a budget
abbrev ReadTakes : ℤ → Reading → Type 0
ReadTakes k a = (r : Read) → a ≡ Ok r → IsTaken k r.view.max_ops

read_takes : (k : ℤ) (s : Read) → IsTaken k s.view.max_ops → ReadTakes k (Ok s)
read_takes k s t r e = subst (λ (q : Read). IsTaken k q.view.max_ops) (same_read s r e) t

then_takes : (j k : ℤ) (s : Read) (next : Reading) → IsTaken j k → ReadTakes k next → ReadTakes j (then_reading s next)
then_takes j k s (Ok q) t p r e = subst (λ (w : Read). IsTaken j w.view.max_ops) (same_read _ r e) (taken_in_turn j k q.view.max_ops t (p q refl))
then_takes j k s (Err x) t p r e = cc

and_then_takes : (k : ℤ) (a : Reading) (t : Stage) → ReadTakes k a → TakesWithinBudget t → ReadTakes k (and_then a t)
and_then_takes k a t p q r e =
    let two = both_read a t r e in
    subst (λ (w : Read). IsTaken k w.view.max_ops) two.both (taken_in_turn k two.first.view.max_ops two.second.view.max_ops (p two.first two.first_is) (q two.first.view two.second two.second_is))

over_takes : (c : Cut) (o : Outcome) → OutcomeTakes c.max_ops o → OutcomeTakes c.max_ops (outcome_past_item o c)
over_takes c (Passes es) p = limit_takes 1 c.max_ops c (Acts (past_item c) es) (nothing_taken c.max_ops)
over_takes c (Acts d es) p = p
over_takes c (Refuses x) p = tt

after_takes : (o : Outcome) (next : Cut → Reading) (v : View) (c : Cut) → OutcomeTakes c.max_ops o → ((d : Cut) → ReadTakes d.max_ops (next d)) → ReadTakes c.max_ops (after_outcome o next v c)
after_takes (Passes es) next v c p q = then_takes c.max_ops c.max_ops (with_events es (view_at v c)) (next c) (nothing_taken c.max_ops) (q c)
after_takes (Acts d es) next v c p q = then_takes c.max_ops d.max_ops (with_events es (view_at v d)) (next d) p (q d)
after_takes (Refuses x) next v c p q = λ r e. cc

before_takes : (act : Action) (next : Cut → Reading) (v : View) (rest : List Item) (c : Cut) → RuleTakes act → ((d : Cut) → ReadTakes d.max_ops (next d)) → ReadTakes c.max_ops (trial_at act next v rest c)
before_takes act next v [] c p q = read_takes c.max_ops (with_events [] (view_at v c)) (nothing_taken c.max_ops)
before_takes act next v (x ∷ rest) c p q = after_takes (outcome_past_item (act c) c) next v c (over_takes c (act c) (p c)) q

tried_takes : (act : Action) (v : View) (n : ℕ) (c : Cut) → RuleTakes act → ReadTakes c.max_ops (trials act v n c)
tried_takes act v zero c p = read_takes c.max_ops (with_events [] (view_at v c)) (nothing_taken c.max_ops)
tried_takes act v (suc n) c p = before_takes act (trials act v n) v c.rest c p (λ d. tried_takes act v n d p)

joined_takes : TakesWithinBudget whole_list
joined_takes v r e = by_test (nat_le (length v.items) v.max_len) e
  where
    by_test : (t : Bool) → ◌≡◌ {A = Reading} (if t then Ok (with_zero_positions v) else Err TooLong) (Ok r) → IsTaken v.max_ops r.view.max_ops
    by_test true d = read_takes v.max_ops (with_zero_positions v) (nothing_taken v.max_ops) r d
    by_test false d = cc

back_takes : (act : Action) (v : View) (n : ℕ) (c : Cut) → RuleTakes act → ReadTakes c.max_ops (backward_trials act v n c)
back_takes act v zero c p = read_takes c.max_ops (with_events [] (view_at v c)) (nothing_taken c.max_ops)
back_takes act v (suc n) c p = after_takes (act (cut_at_index n c)) (backward_trials act v n) v (cut_at_index n c) (p (cut_at_index n c)) (λ d. back_takes act v n d p)

up_takes : (act : Action) → RuleTakes act → TakesWithinBudget (forward_pass act)
up_takes act p v = and_then_takes v.max_ops (trials act v (length v.items) (uncut v)) whole_list (tried_takes act v (length v.items) (uncut v) p) joined_takes

down_takes : (act : Action) → RuleTakes act → TakesWithinBudget (backward_pass act)
down_takes act p v = back_takes act v (length v.items) (uncut_with_positions v) p

along_takes : (act : Direction → Action) → ((d : Direction) → RuleTakes (act d)) → TakesWithinBudget (λ v. positioning_pass (act v.direction) v)
along_takes act p v = tried_takes (act v.direction) v (length v.items) (uncut_with_positions v) (p v.direction)

same_takes : TakesWithinBudget as_it_is
same_takes v = read_takes v.max_ops (with_events [] v) (nothing_taken v.max_ops)

both_take : (s t : Stage) → TakesWithinBudget s → TakesWithinBudget t → TakesWithinBudget (λ v. and_then (s v) t)
both_take s t p q v = and_then_takes v.max_ops (s v) t (p v) q

-- the stage that puts the random state back
abbrev restoration : ℕ → Stage
restoration n = always (λ w. with_events [] (record w { random = n }))

own_takes : (stage : Stage) → TakesWithinBudget stage → TakesWithinBudget (with_own_random stage)
own_takes stage p v = and_then_takes v.max_ops (stage (record v { random = 1 })) (restoration v.random) (p (record v { random = 1 })) (λ w. read_takes w.max_ops (with_events [] (record w { random = v.random })) (nothing_taken w.max_ops))

stages_take : IsOfStages TakesWithinBudget RuleTakes
stages_take = record { same = same_takes; both = both_take; up = up_takes; back = down_takes; over = along_takes; own = own_takes }

substituting_takes : AreSubstituting RuleTakes
substituting_takes = record {
  up = λ table a lookup. forward_related by_taken tt substituted_by_taken table a lookup;
  back = λ a lookup. backward_related by_taken tt substituted_by_taken a lookup;
}

positioning_takes : ArePositioning RuleTakes
positioning_takes = record { over = λ table d a lookup. action_related by_taken tt positioned_by_taken table d a lookup }

pub nests_within_budget : NestsWithinBudget
nests_within_budget font m pauses k = (substituted_has TakesWithinBudget RuleTakes stages_take substituting_takes font m pauses k, positioned_has TakesWithinBudget RuleTakes stages_take positioning_takes font m pauses k)

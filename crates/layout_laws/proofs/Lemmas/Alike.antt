-- Rules that depend on no limit of length.
use Rattle.std.proofs.Common.{ℕ, zero, suc, ◌≡◌, ◌+◌, Bool, true, false, nat_le, if◌then◌else◌, List, [], ◌∷◌, ◌++◌, Option, Some, None, length, Ok, refl, ap, sym, subst, ◌∙◌}
use Rattle.buffer_glyphs.specs.declared.cause.ShapeCause.{ShapeCause}
use Rattle.buffer_glyphs.specs.declared.cause.ShapeCause.TheVariants.{TooLong}
use Rattle.buffer_glyphs.specs.Items.{Item}
use Rattle.buffer_glyphs.specs.Parts.{first_of}
use Rattle.buffer_glyphs.specs.Events.{Event}
use Rattle.buffer_core.specs.Readings.{View, Reading, with_events}
use Rattle.buffer_stages.specs.Actions.{Cut, view_at, uncut, past_item, Outcome, Passes, Acts, Refuses, Action, attempt_around, later, or_else, first_rule, at_first}
use Rattle.layout_match.specs.Applied.{ApplyContext}
use Rattle.layout_match.specs.Trying.{meets, at_met, after_outcome, outcome_past_item, trial_at, trials, with_zero_positions, whole_list, forward_pass}
use Rattle.buffer_parts.specs.Alike.{attachment_bit, with_limit_and_flags, SeenAlike, ReadAlike, ReadingsAlike, DependsOnNoLength}
use Rattle.buffer_parts.specs.Lemmas.Alike.{at_alike, refused_readings, limited_readings, then_reading_alike, and_then_alike}
use Rattle.layout_laws.specs.Alike.{cut_as, CutsAlike, OutcomesAlike, RuleDependsOnNoLength}
use Rattle.layout_laws.specs.RuleLengths.{FirstRulesDependOnNoLength, MetRulesDependOnNoLength, LookupsDependOnNoLength}

-- ---- what holds of each cut with another limit and other flags holds of one alike

pub at_alike_cut : (c d : Cut) (P : Cut → Type 0) → CutsAlike c d → ((limit scratch_flags : ℕ) → attachment_bit c.scratch_flags ≡ attachment_bit scratch_flags → P (cut_as limit scratch_flags c)) → P d
at_alike_cut c d P s k = subst P (sym s.same) (k d.max_len d.scratch_flags s.scratch_flags)

pub cuts_alike : (c : Cut) (limit scratch_flags : ℕ) → attachment_bit c.scratch_flags ≡ attachment_bit scratch_flags → CutsAlike c (cut_as limit scratch_flags c)
cuts_alike c limit scratch_flags e = record { scratch_flags = e; same = refl }

-- ---- rules

pub refused_outcomes : (o : Outcome) (y : ShapeCause) → OutcomesAlike o (Refuses y)
refused_outcomes (Passes es) y = tt
refused_outcomes (Acts c es) y = tt
refused_outcomes (Refuses x) y = tt

pub limited_outcomes : (p q : Bool) (a b : Outcome) (x y : ShapeCause) → OutcomesAlike a b → OutcomesAlike (if p then a else Refuses x) (if q then b else Refuses y)
limited_outcomes true true a b x y k = k
limited_outcomes true false a b x y k = refused_outcomes a y
limited_outcomes false q a b x y k = tt

pub later_alike : (es fs : List Event) (o p : Outcome) → es ≡ fs → OutcomesAlike o p → OutcomesAlike (later es o) (later fs p)
later_alike es fs (Passes gs) (Passes hs) e k = ap (λ (xs : List Event). xs ++ gs) e ∙ ap (λ (xs : List Event). fs ++ xs) k
later_alike es fs (Passes gs) (Acts d hs) e k = absurd k
later_alike es fs (Passes gs) (Refuses y) e k = tt
later_alike es fs (Acts c gs) (Passes hs) e k = absurd k
later_alike es fs (Acts c gs) (Acts d hs) e k = (k.0, ap (λ (xs : List Event). xs ++ gs) e ∙ ap (λ (xs : List Event). fs ++ xs) k.1)
later_alike es fs (Acts c gs) (Refuses y) e k = tt
later_alike es fs (Refuses x) p e k = tt

pub or_else_alike : (o p second third : Outcome) → OutcomesAlike o p → OutcomesAlike second third → OutcomesAlike (or_else o second) (or_else p third)
or_else_alike (Passes es) (Passes fs) second third k l = later_alike es fs second third k l
or_else_alike (Passes es) (Acts d fs) second third k l = absurd k
or_else_alike (Passes es) (Refuses y) second third k l = refused_outcomes (or_else (Passes es) second) y
or_else_alike (Acts c es) (Passes fs) second third k l = absurd k
or_else_alike (Acts c es) (Acts d fs) second third k l = k
or_else_alike (Acts c es) (Refuses y) second third k l = tt
or_else_alike (Refuses x) p second third k l = tt

-- the first of some rules, whatever they are made of
pub first_rule_depends : {R : Type 0} (act : R → Action) (rules : List R) → ((r : R) → RuleDependsOnNoLength (act r)) → RuleDependsOnNoLength (first_rule act rules)
first_rule_depends act [] k c d s = refl
first_rule_depends act (r ∷ rules) k c d s = or_else_alike (act r c) (act r d) (first_rule act rules c) (first_rule act rules d) (k r c d s) (first_rule_depends act rules k c d s)

pub first_rules_depend_on_no_length : FirstRulesDependOnNoLength
first_rules_depend_on_no_length act rules k = first_rule_depends act rules k

at_met_depends : (a : ApplyContext) (act : Action) (x : Item) → RuleDependsOnNoLength act → RuleDependsOnNoLength (at_met a act x)
at_met_depends a act x k c d s = by_test (meets a x)
  where
    by_test : (t : Bool) → OutcomesAlike (if t then act c else Passes []) (if t then act d else Passes [])
    by_test true = k c d s
    by_test false = refl

pub at_first_depends : (act : Item → Action) (o : Option Item) → ((x : Item) → RuleDependsOnNoLength (act x)) → RuleDependsOnNoLength (at_first act o)
at_first_depends act None k c d s = refl
at_first_depends act (Some x) k c d s = k x c d s

pub at_item_depends : (act : Item → Action) → ((x : Item) → RuleDependsOnNoLength (act x)) → RuleDependsOnNoLength (λ c. at_first act (first_of c.rest) c)
at_item_depends act k c d s =
    subst (λ (xs : List Item). OutcomesAlike (at_first act (first_of c.rest) c) (at_first act (first_of xs) d)) (sym (ap (λ (e : Cut). e.rest) s.same)) (at_first_depends act (first_of c.rest) k c d s)

pub met_rules_depend_on_no_length : MetRulesDependOnNoLength
met_rules_depend_on_no_length a act k = at_item_depends (at_met a act) (λ x. at_met_depends a act x k)

-- ---- lookups

past_alike : (c d : Cut) → CutsAlike c d → CutsAlike (past_item c) (past_item d)
past_alike c d s = at_alike_cut c d (λ d. CutsAlike (past_item c) (past_item d)) s (λ limit scratch_flags e. cuts_alike (past_item c) limit scratch_flags e)

over_alike : (o p : Outcome) (c d : Cut) → CutsAlike c d → OutcomesAlike o p → OutcomesAlike (outcome_past_item o c) (outcome_past_item p d)
over_alike (Passes es) (Passes fs) c d s k = limited_outcomes (nat_le (length c.front + 1) c.max_len) (nat_le (length d.front + 1) d.max_len) (Acts (past_item c) es) (Acts (past_item d) fs) TooLong TooLong (past_alike c d s, k)
over_alike (Passes es) (Acts e fs) c d s k = absurd k
over_alike (Passes es) (Refuses y) c d s k = refused_outcomes (outcome_past_item (Passes es) c) y
over_alike (Acts b es) (Passes fs) c d s k = absurd k
over_alike (Acts b es) (Acts e fs) c d s k = k
over_alike (Acts b es) (Refuses y) c d s k = tt
over_alike (Refuses x) p c d s k = tt

-- the cuts of views of one direction
pub placed_alike : (v w : View) (c d : Cut) → v.direction ≡ w.direction → CutsAlike c d → SeenAlike (view_at v c) (view_at w d)
placed_alike v w c d way s = at_alike_cut c d (λ d. SeenAlike (view_at v c) (view_at w d)) s (λ limit scratch_flags e. record { scratch_flags = e; same = ap (λ x. record (view_at v (cut_as limit scratch_flags c)) { direction = x }) (sym way) })

pub here_alike : (v w : View) (c d : Cut) → v.direction ≡ w.direction → CutsAlike c d → ReadAlike (with_events [] (view_at v c)) (with_events [] (view_at w d))
here_alike v w c d way s = record { view = placed_alike v w c d way s; events = λ level. refl }

abbrev pub NextAlike : (Cut → Reading) → (Cut → Reading) → Type 0
NextAlike next more = (c d : Cut) → CutsAlike c d → ReadingsAlike (next c) (more d)

pub after_alike : (o p : Outcome) (next more : Cut → Reading) (v w : View) (c d : Cut) → CutsAlike c d → OutcomesAlike o p → NextAlike next more → ReadingsAlike (after_outcome o next v c) (after_outcome p more w d)
after_alike (Passes es) (Passes fs) next more v w c d s k n = then_reading_alike (with_events es (view_at v c)) (with_events fs (view_at w d)) (next c) (more d) (λ level. k) (n c d s)
after_alike (Passes es) (Acts e fs) next more v w c d s k n = absurd k
after_alike (Passes es) (Refuses y) next more v w c d s k n = refused_readings (after_outcome (Passes es) next v c) y
after_alike (Acts b es) (Passes fs) next more v w c d s k n = absurd k
after_alike (Acts b es) (Acts e fs) next more v w c d s k n = then_reading_alike (with_events es (view_at v b)) (with_events fs (view_at w e)) (next b) (more e) (λ level. k.1) (n b e k.0)
after_alike (Acts b es) (Refuses y) next more v w c d s k n = refused_readings (after_outcome (Acts b es) next v c) y
after_alike (Refuses x) p next more v w c d s k n = tt

before_alike : (act : Action) (next more : Cut → Reading) (v w : View) (rest : List Item) (c d : Cut) → v.direction ≡ w.direction → RuleDependsOnNoLength act → CutsAlike c d → NextAlike next more → ReadingsAlike (trial_at act next v rest c) (trial_at act more w rest d)
before_alike act next more v w [] c d way k s n = here_alike v w c d way s
before_alike act next more v w (x ∷ rest) c d way k s n = after_alike (outcome_past_item (act c) c) (outcome_past_item (act d) d) next more v w c d s (over_alike (act c) (act d) c d s (k c d s)) n

pub tried_alike : (act : Action) (v w : View) (n : ℕ) → v.direction ≡ w.direction → RuleDependsOnNoLength act → NextAlike (trials act v n) (trials act w n)
tried_alike act v w zero way k c d s = here_alike v w c d way s
tried_alike act v w (suc n) way k c d s =
    subst (λ (xs : List Item). ReadingsAlike (trials act v (suc n) c) (trial_at act (trials act w n) w xs d)) (sym (ap (λ (e : Cut). e.rest) s.same))
    (before_alike act (trials act v n) (trials act w n) v w c.rest c d way k s (tried_alike act v w n way k))

joined_depends : DependsOnNoLength whole_list
joined_depends a b s = at_alike a b (λ b. ReadingsAlike (whole_list a) (whole_list b)) s (λ limit scratch_flags e.
    limited_readings (nat_le (length a.items) a.max_len) (nat_le (length a.items) limit) (Ok (with_zero_positions a)) (Ok (with_zero_positions (with_limit_and_flags limit scratch_flags a))) TooLong TooLong (record { view = record { scratch_flags = e; same = refl }; events = λ level. refl }))

pub lookups_depend_on_no_length : LookupsDependOnNoLength
lookups_depend_on_no_length act k a b s = at_alike a b (λ b. ReadingsAlike (forward_pass act a) (forward_pass act b)) s (λ limit scratch_flags e.
    and_then_alike (trials act a (length a.items) (uncut a)) (trials act (with_limit_and_flags limit scratch_flags a) (length a.items) (uncut (with_limit_and_flags limit scratch_flags a))) whole_list
    (tried_alike act a (with_limit_and_flags limit scratch_flags a) (length a.items) refl k (uncut a) (uncut (with_limit_and_flags limit scratch_flags a)) (record { scratch_flags = e; same = refl })) joined_depends)

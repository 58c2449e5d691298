-- Lookups that keep the parts of a text.
use Rattle.std.proofs.Common.{ℕ, zero, suc, ◌≡◌, ◌++◌, Bool, true, false, nat_le, if◌then◌else◌, List, [], ◌∷◌, length, take, drop, Ok, Err, ap, sym, subst, ◌∙◌, append_assoc}
use Rattle.std.proofs.lemmas.List.{take-append-drop}
use Rattle.buffer_glyphs.specs.declared.cause.ShapeCause.TheVariants.{TooLong}
use Rattle.buffer_glyphs.specs.Items.{Item}
use Rattle.buffer_glyphs.specs.Parts.{first_of}
use Rattle.buffer_core.specs.Readings.{View, Reading}
use Rattle.buffer_stages.specs.Actions.{Cut, whole, view_at, uncut, past_item, Outcome, Passes, Acts, Refuses, Action}
use Rattle.layout_match.specs.Trying.{meets, at_met, after_outcome, outcome_past_item, trial_at, trials, with_zero_positions, whole_list}
use Rattle.buffer_parts.specs.Keeping.{AreKept}
use Rattle.buffer_parts.specs.Rules.{OutcomeKeepsParts, RuleKeepsParts}
use Rattle.buffer_parts.specs.Stages.{KeepsParts}
use Rattle.buffer_parts.specs.Lemmas.Stages.{ReadsParts, at_read, nothing_keeps, read_now, then_reading_keeps, then_reads}
use Rattle.buffer_parts.proofs.Lemmas.Rules.{at_first_keeps, limit_keeps, pass_keeps}
use Rattle.layout_laws.specs.RuleParts.{LookupsKeepParts, MetRulesKeepParts}

pub met_rules_keep_parts : MetRulesKeepParts
met_rules_keep_parts a act p c = at_first_keeps (at_met a act) (first_of c.rest) (λ x d. elim (meets a x) as (λ t. OutcomeKeepsParts (if t then act d else Passes []) (length (whole d))) [ true ↦ p d | false ↦ pass_keeps (length (whole d)) ]) c

past_whole : (c : Cut) → whole (past_item c) ≡ whole c
past_whole c = append_assoc c.front (take 1 c.rest) (drop 1 c.rest) ∙ ap (λ xs. c.front ++ xs) (take-append-drop 1 c.rest)

over_keeps : (c : Cut) (o : Outcome) → OutcomeKeepsParts o (length (whole c)) → OutcomeKeepsParts (outcome_past_item o c) (length (whole c))
over_keeps c (Passes es) p = limit_keeps 1 (length (whole c)) c (Acts (past_item c) es) (λ level. subst (λ (n : ℕ). AreKept level es (length (whole c)) n) (sym (ap (λ xs. length xs) (past_whole c))) (p level))
over_keeps c (Acts cut es) p = p
over_keeps c (Refuses cause) p = tt

-- what an outcome does, and then the rest of the walk
pub after_keeps : (o : Outcome) (next : Cut → Reading) (v : View) (c : Cut) → OutcomeKeepsParts o (length (whole c)) → ((d : Cut) → ReadsParts (length (whole d)) (next d)) → ReadsParts (length (whole c)) (after_outcome o next v c)
after_keeps (Passes es) next v c p q = then_reading_keeps (length (whole c)) (length (whole c)) es (view_at v c) (next c) p (q c)
after_keeps (Acts cut es) next v c p q = then_reading_keeps (length (whole c)) (length (whole cut)) es (view_at v cut) (next cut) p (q cut)
after_keeps (Refuses cause) next v c p q = λ r level e. cc

before_keeps : (act : Action) (next : Cut → Reading) (v : View) (rest : List Item) (c : Cut) → RuleKeepsParts act → ((d : Cut) → ReadsParts (length (whole d)) (next d)) → ReadsParts (length (whole c)) (trial_at act next v rest c)
before_keeps act next v [] c p q = read_now (length (whole c)) [] (view_at v c) (λ level. nothing_keeps level (length (whole c)))
before_keeps act next v (x ∷ rest) c p q = after_keeps (outcome_past_item (act c) c) next v c (over_keeps c (act c) (p c)) q

pub tried_keeps : (act : Action) (v : View) (n : ℕ) (c : Cut) → RuleKeepsParts act → ReadsParts (length (whole c)) (trials act v n c)
tried_keeps act v zero c p = read_now (length (whole c)) [] (view_at v c) (λ level. nothing_keeps level (length (whole c)))
tried_keeps act v (suc n) c p = before_keeps act (trials act v n) v c.rest c p (λ d. tried_keeps act v n d p)

joined_keeps : KeepsParts whole_list
joined_keeps v r level e = by_test (nat_le (length v.items) v.max_len) e
  where
    by_test : (t : Bool) → ◌≡◌ {A = Reading} (if t then Ok (with_zero_positions v) else Err TooLong) (Ok r) → AreKept level (r.events level) (length v.items) (length r.view.items)
    by_test true d = at_read (λ q. AreKept level (q.events level) (length v.items) (length q.view.items)) (with_zero_positions v) r d (nothing_keeps level (length v.items))
    by_test false d = cc

pub lookups_keep_parts : LookupsKeepParts
lookups_keep_parts act p v r level e = then_reads (length v.items) (trials act v (length v.items) (uncut v)) whole_list (tried_keeps act v (length v.items) (uncut v) p) joined_keeps r level e

-- Lookups leave the direction of a text as it is.
use Rattle.std.proofs.Common.{ℕ, zero, suc, ◌≡◌, Bool, true, false, nat_le, if◌then◌else◌, List, [], ◌∷◌, ◌++◌, Ok, Err, length, refl, subst, ◌∙◌}
use Rattle.buffer_common.specs.declared.direction.Direction.{Direction}
use Rattle.buffer_glyphs.specs.declared.cause.ShapeCause.TheVariants.{TooLong}
use Rattle.buffer_glyphs.specs.Items.{Item}
use Rattle.buffer_core.specs.Readings.{Read, Reading, Stage, View, always, and_then, as_it_is, then_reading, with_events}
use Rattle.buffer_stages.specs.Actions.{Action, Acts, Cut, Outcome, Passes, Refuses, uncut, uncut_with_positions, view_at}
use Rattle.buffer_stages.specs.Pauses.{Pauses, with_own_random}
use Rattle.buffer_parts.specs.Lemmas.Stages.{at_read, both_read}
use Rattle.layout_face.specs.declared.parts.FaceParts.{FaceParts}
use Rattle.layout_map.specs.Compiled.{OtMapValue}
use Rattle.layout_match.specs.Trying.{after_outcome, outcome_past_item, trial_at, trials, whole_list, with_zero_positions}
use Rattle.layout_substitution.specs.Lookups.{backward_trials, cut_at_index}
use Rattle.layout_substitution.specs.Substituting.{substitution_stages}
use Rattle.layout_positioning.specs.Positioning.{positioning_stages}
use Rattle.layout_laws.proofs.Lemmas.Stages.{IsOfStages, positioned_has, substituted_has}
use Rattle.shape_parts.specs.Lines.{KeepsDirection}

-- a reading leaves a direction
abbrev ReadsDirection : Direction → Reading → Type 0
ReadsDirection d a = (r : Read) → a ≡ Ok r → r.view.direction ≡ d

read_direction : (s : Read) (d : Direction) → s.view.direction ≡ d → ReadsDirection d (Ok s)
read_direction s d p r e = at_read (λ q. q.view.direction ≡ d) s r e p

then_direction : (d : Direction) (s : Read) (next : Reading) → ReadsDirection d next → ReadsDirection d (then_reading s next)
then_direction d s (Ok t) q r e = at_read (λ w. w.view.direction ≡ d) (record { view = t.view; events = λ level. s.events level ++ t.events level }) r e (q t refl)
then_direction d s (Err x) q r e = cc

both_direction : (d : Direction) (a : Reading) (t : Stage) → ReadsDirection d a → KeepsDirection t → ReadsDirection d (and_then a t)
both_direction d a t p q r e =
    let two = both_read a t r e in
    subst (λ (w : Read). w.view.direction ≡ d) two.both (q two.first.view two.second two.second_is ∙ p two.first two.first_is)

after_direction : (o : Outcome) (next : Cut → Reading) (v : View) (c : Cut) → ((d : Cut) → ReadsDirection v.direction (next d)) → ReadsDirection v.direction (after_outcome o next v c)
after_direction (Passes es) next v c q = then_direction v.direction (with_events es (view_at v c)) (next c) (q c)
after_direction (Acts d es) next v c q = then_direction v.direction (with_events es (view_at v d)) (next d) (q d)
after_direction (Refuses x) next v c q = λ r e. cc

trial_direction : (act : Action) (next : Cut → Reading) (v : View) (rest : List Item) (c : Cut) → ((d : Cut) → ReadsDirection v.direction (next d)) → ReadsDirection v.direction (trial_at act next v rest c)
trial_direction act next v [] c q = read_direction (with_events [] (view_at v c)) v.direction refl
trial_direction act next v (x ∷ rest) c q = after_direction (outcome_past_item (act c) c) next v c q

trials_direction : (act : Action) (v : View) (n : ℕ) (c : Cut) → ReadsDirection v.direction (trials act v n c)
trials_direction act v zero c = read_direction (with_events [] (view_at v c)) v.direction refl
trials_direction act v (suc n) c = trial_direction act (trials act v n) v c.rest c (trials_direction act v n)

back_direction : (act : Action) (v : View) (n : ℕ) (c : Cut) → ReadsDirection v.direction (backward_trials act v n c)
back_direction act v zero c = read_direction (with_events [] (view_at v c)) v.direction refl
back_direction act v (suc n) c = after_direction (act (cut_at_index n c)) (backward_trials act v n) v (cut_at_index n c) (back_direction act v n)

whole_direction : KeepsDirection whole_list
whole_direction v r e = by_test (nat_le (length v.items) v.max_len) e
  where
    by_test : (t : Bool) → ◌≡◌ {A = Reading} (if t then Ok (with_zero_positions v) else Err TooLong) (Ok r) → r.view.direction ≡ v.direction
    by_test true d = at_read (λ q. q.view.direction ≡ v.direction) (with_zero_positions v) r d refl
    by_test false d = cc

pub same_direction : KeepsDirection as_it_is
same_direction v r e = at_read (λ q. q.view.direction ≡ v.direction) (with_events [] v) r e refl

pub stages_direction : (s t : Stage) → KeepsDirection s → KeepsDirection t → KeepsDirection (λ v. and_then (s v) t)
stages_direction s t p q v = both_direction v.direction (s v) t (p v) q

own_direction : (s : Stage) → KeepsDirection s → KeepsDirection (with_own_random s)
own_direction s p v = both_direction v.direction (s (record v { random = 1 })) (always (λ w. with_events [] (record w { random = v.random }))) (p (record v { random = 1 })) (λ w. read_direction (with_events [] (record w { random = v.random })) w.direction refl)

-- every rule
abbrev AnyRule : Action → Type 0
AnyRule act = Unit {0}

stages_leave_direction : IsOfStages KeepsDirection AnyRule
stages_leave_direction = record {
  same = same_direction;
  both = stages_direction;
  up = λ act k v. both_direction v.direction (trials act v (length v.items) (uncut v)) whole_list (trials_direction act v (length v.items) (uncut v)) whole_direction;
  back = λ act k v. back_direction act v (length v.items) (uncut_with_positions v);
  over = λ act k v. trials_direction (act v.direction) v (length v.items) (uncut_with_positions v);
  own = own_direction;
}

pub substitution_direction : (font : FaceParts) (m : OtMapValue) (pauses : Pauses) → ((n : ℕ) → KeepsDirection (pauses n)) → KeepsDirection (substitution_stages font m pauses)
substitution_direction = substituted_has KeepsDirection AnyRule stages_leave_direction (record { up = λ table a lookup. tt; back = λ a lookup. tt })

pub positioning_direction : (font : FaceParts) (m : OtMapValue) (pauses : Pauses) → ((n : ℕ) → KeepsDirection (pauses n)) → KeepsDirection (positioning_stages font m pauses)
positioning_direction = positioned_has KeepsDirection AnyRule stages_leave_direction (record { over = λ table d a lookup. tt })

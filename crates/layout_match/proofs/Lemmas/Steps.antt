-- One step of a lookup: at the end, over a glyph, or by a rule that acts.
use Rattle.std.proofs.Common.{ℕ, suc, zero, ◌≡◌, ◌<◌, ◌+◌, nat_le, Bool, true, false, List, [], ◌∷◌, ◌++◌, length, take, drop, Ok, Err, refl, sym, ap, subst, ◌∙◌, arith, append_assoc}
use Rattle.std.proofs.lemmas.List.{map-append, take-map, drop-map, take-append-drop, length-drop, length-map}
use Rattle.buffer_glyphs.specs.declared.cause.ShapeCause.{ShapeCause}
use Rattle.buffer_glyphs.specs.declared.cause.ShapeCause.TheVariants.{TooLong}
use Rattle.buffer_glyphs.specs.Items.{Item, item_of, strip}
use Rattle.buffer_glyphs.specs.Origins.{origins}
use Rattle.buffer_glyphs.specs.Events.{Event}
use Rattle.buffer_core.specs.Readings.{View, Reading, BufferState, Follows, then_reading, with_events}
use Rattle.buffer_core.specs.Steps.{follows_happened}
use Rattle.buffer_core.specs.Sides.{Sides, all_glyphs, items_of, state_of, after_next_glyphs, fits_next}
use Rattle.buffer_stages.specs.Actions.{Cut, view_at, past_item, Outcome, Passes, Acts, Refuses, Action}
use Rattle.buffer_stages.specs.Buffers.{are_glyphs, IsStill, HasHappened, IsPassed}
use Rattle.buffer_stages.specs.Performing.{cut_with, IsPerformed}
use Rattle.buffer_stages.proofs.Lemmas.Frames.{still_settings, still_limit, still_open, same_level, same_asks, same_lengths, same_numbers}
use Rattle.buffer_stages.proofs.Lemmas.Performed.{same_with}
use Rattle.layout_match.specs.Trying.{trials, trial_at, after_outcome, outcome_past_item}
use Rattle.layout_match.specs.Steps.{IsStep, IsGivenUp}

pub ended : (act : Action) (v : View) (n : ℕ) (c : Cut) → c.rest ≡ [] → trials act v n c ≡ Ok (with_events [] (view_at v c))
ended act v zero c e = refl
ended act v (suc n) c e = ap (λ (xs : List Item). trial_at act (trials act v n) v xs c) e

going : (act : Action) (v : View) (n : ℕ) (c : Cut) (rest : List Item) → c.rest ≡ rest → 0 < length rest → trials act v (suc n) c ≡ after_outcome (outcome_past_item (act c) c) (trials act v n) v c
going act v n c [] e lt = absurd (omega (arith, lt))
going act v n c (x ∷ rest) e lt = ap (λ (xs : List Item). trial_at act (trials act v n) v xs c) e

-- at a buffer with glyphs ahead a rule is tried
going_on : (act : Action) (v : View) (n r : ℕ) (s : Sides) → 0 < length s.ahead → trials act v (suc n) (cut_with r s) ≡ after_outcome (outcome_past_item (act (cut_with r s)) (cut_with r s)) (trials act v n) v (cut_with r s)
going_on act v n r s lt = let long = length-map s.ahead item_of in going act v n (cut_with r s) (strip s.ahead) refl (omega (arith, long, lt))

-- what follows after events, and what is refused after them
then_tried : (act : Action) (v : View) (n before after : ℕ) (es : List Event) (w : View) (c : Cut) (s new : Sides) (final : BufferState) → trials act v (suc n) (cut_with before s) ≡ then_reading (with_events es w) (trials act v n c) → cut_with after new ≡ c
    → IsStill s new → HasHappened es s new → Follows (trials act v n (cut_with after new)) (state_of new) final → Follows (trials act v (suc n) (cut_with before s)) (state_of s) final
then_tried act v n before after es w c s new final is at still happened f =
    let P : Reading → Type 0 = λ r. Follows r (state_of s) final in
    let Q : Cut → Type 0 = λ d. Follows (trials act v n d) (state_of new) final in
    let settings = still_settings s new still in
    subst P (sym is) (follows_happened es w (trials act v n c) (state_of s) (state_of new) final happened (same_level s new settings) (same_asks s new settings) (subst Q at f))

then_refused : (act : Action) (v : View) (n before after : ℕ) (es : List Event) (w : View) (c : Cut) (s new : Sides) (cause : ShapeCause) → trials act v (suc n) (cut_with before s) ≡ then_reading (with_events es w) (trials act v n c) → cut_with after new ≡ c
    → trials act v n (cut_with after new) ≡ Err cause → trials act v (suc n) (cut_with before s) ≡ Err cause
then_refused act v n before after es w c s new cause is at e = is ∙ ap (then_reading (with_events es w)) (ap (trials act v n) (sym at) ∙ e)

-- ---- a rule that acts

acted_step : (act : Action) (before after : ℕ) (s new : Sides) (o : Outcome) → 0 < length s.ahead → act (cut_with before s) ≡ o → IsPerformed o true before after s new → IsStep act before after s new
acted_step act before after s new (Passes es) lt e d = cc
acted_step act before after s new (Refuses cause) lt e d = absurd d
acted_step act before after s new (Acts cut es) lt e d =
    let a = d.1 in
    let fewer = a.fewer in
    let is : (v : View) (n : ℕ) → trials act v (suc n) (cut_with before s) ≡ then_reading (with_events es (view_at v cut)) (trials act v n cut) = λ v n. going_on act v n before s lt ∙ ap (λ o. after_outcome (outcome_past_item o (cut_with before s)) (trials act v n) v (cut_with before s)) e in
    record {
      still = a.still;
      less = omega (arith, fewer);
      numbers = a.numbers;
      follows = λ v n final f. then_tried act v n before after es (view_at v cut) cut s new final (is v n) a.cut_is a.still a.happened f;
      refuses = λ v n cause g. then_refused act v n before after es (view_at v cut) cut s new cause (is v n) a.cut_is g;
    }

pub step_acted : (act : Action) (before after : ℕ) (acted : Bool) (s new : Sides) → acted ≡ true → 0 < length s.ahead → IsPerformed (act (cut_with before s)) acted before after s new → IsStep act before after s new
step_acted act before after acted s new acts lt d =
    let P : Bool → Type 0 = λ b. IsPerformed (act (cut_with before s)) b before after s new in
    acted_step act before after s new (act (cut_with before s)) lt refl (subst P acts d)

-- ---- a rule that passes

passes_of : (act : Action) (before after : ℕ) (s new : Sides) (o : Outcome) → act (cut_with before s) ≡ o → IsPerformed o false before after s new → (es : List Event) × (act (cut_with before s) ≡ Passes es) × (after ≡ before) × IsPassed es s new
passes_of act before after s new (Passes es) e d = (es, e, d.1, d.2)
passes_of act before after s new (Acts cut es) e d = cc
passes_of act before after s new (Refuses cause) e d = absurd d

pub passed_there : (act : Action) (before after : ℕ) (acted : Bool) (s mid : Sides) → acted ≡ false → IsPerformed (act (cut_with before s)) acted before after s mid → length mid.ahead ≡ length s.ahead
passed_there act before after acted s mid fails d =
    let P : Bool → Type 0 = λ b. IsPerformed (act (cut_with before s)) b before after s mid in
    let p = passes_of act before after s mid (act (cut_with before s)) refl (subst P fails d) in
    (same_lengths s mid p.3.cut_is).1

moved_cut : (r : ℕ) (s : Sides) → cut_with r (after_next_glyphs 1 s) ≡ past_item (cut_with r s)
moved_cut r s = rw (map-append, take-map, drop-map) refl

moved_all : (s : Sides) → all_glyphs (after_next_glyphs 1 s) ≡ all_glyphs s
moved_all s = append_assoc s.behind (take 1 s.ahead) (drop 1 s.ahead) ∙ ap (λ gs. s.behind ++ gs) (take-append-drop 1 s.ahead)

-- the limit of the cut is that of the buffer, before a rule passed and after
room_of : (r : ℕ) (es : List Event) (s mid : Sides) → s.is_open ≡ true → IsPassed es s mid → nat_le (length (cut_with r s).front + 1) (cut_with r s).max_len ≡ fits_next 1 mid
room_of r es s mid opened_before p =
    let long = same_lengths s mid p.cut_is in
    let limit = still_limit s mid p.still in
    let opened : mid.is_open ≡ true = still_open s mid p.still ∙ opened_before in
    let front : length (strip s.behind) ≡ length mid.behind = length-map s.behind item_of ∙ sym long.0 in
    ap (λ k. nat_le (k + 1) s.max_len) front ∙ ap (nat_le (length mid.behind + 1)) (sym limit) ∙ rw opened refl

-- the rule passed, and the cursor went over the glyph
over_step : (act : Action) (before : ℕ) (s mid : Sides) (es : List Event) → 0 < length s.ahead → nat_le (length (cut_with before s).front + 1) (cut_with before s).max_len ≡ true → act (cut_with before s) ≡ Passes es → IsPassed es s mid → IsStep act before before s (after_next_glyphs 1 mid)
over_step act before s mid es lt room passes q =
    let c = cut_with before s in
    let long = same_lengths s mid q.cut_is in
    let left = length-drop 1 mid.ahead in
    let cut : cut_with before (after_next_glyphs 1 mid) ≡ past_item c = moved_cut before mid ∙ ap past_item (same_with before s mid q.cut_is) in
    let kept : IsStill s (after_next_glyphs 1 mid) = q.still in
    let over : outcome_past_item (act c) c ≡ Acts (past_item c) es = ap (λ o. outcome_past_item o c) passes ∙ rw room refl in
    let followed : (v : View) (n : ℕ) → trials act v (suc n) c ≡ then_reading (with_events es (view_at v (past_item c))) (trials act v n (past_item c)) = λ v n. going_on act v n before s lt ∙ ap (λ o. after_outcome o (trials act v n) v c) over in
    record {
      still = kept;
      less = omega (arith, left, long.1);
      numbers = λ h. ap (λ gs. are_glyphs (strip gs)) (moved_all mid) ∙ ap are_glyphs (same_numbers s mid q.cut_is) ∙ h;
      follows = λ v n final f. then_tried act v n before before es (view_at v (past_item c)) (past_item c) s (after_next_glyphs 1 mid) final (followed v n) cut kept (ap origins (moved_all mid) ∙ q.happened) f;
      refuses = λ v n cause g. then_refused act v n before before es (view_at v (past_item c)) (past_item c) s (after_next_glyphs 1 mid) cause (followed v n) cut g;
    }

-- a glyph at which the rule doesn't act is passed, where what is done may have one more
pub step_over : (act : Action) (before after : ℕ) (acted : Bool) (s mid new : Sides) → acted ≡ false → 0 < length s.ahead → nat_le (length (cut_with before s).front + 1) (cut_with before s).max_len ≡ true → IsPerformed (act (cut_with before s)) acted before after s mid → new ≡ after_next_glyphs 1 mid
    → IsStep act before after s new
step_over act before after acted s mid new fails lt room d is =
    let D : Bool → Type 0 = λ b. IsPerformed (act (cut_with before s)) b before after s mid in
    let p = passes_of act before after s mid (act (cut_with before s)) refl (subst D fails d) in
    let P : Sides → Type 0 = λ t. IsStep act before after s t in
    let Q : ℕ → Type 0 = λ k. IsStep act before k s (after_next_glyphs 1 mid) in
    subst P (sym is) (subst Q (sym p.2) (over_step act before s mid p.0 lt room p.1 p.3))

-- where the rule didn't act, the items are as before
pub passed_items : (act : Action) (before after : ℕ) (acted : Bool) (s mid new : Sides) → acted ≡ false → IsPerformed (act (cut_with before s)) acted before after s mid → new ≡ after_next_glyphs 1 mid → items_of new ≡ items_of s
passed_items act before after acted s mid new fails d is =
    let D : Bool → Type 0 = λ b. IsPerformed (act (cut_with before s)) b before after s mid in
    let p = passes_of act before after s mid (act (cut_with before s)) refl (subst D fails d) in
    ap items_of is ∙ ap strip (moved_all mid) ∙ same_numbers s mid p.3.cut_is

-- the same with an output open
pub step_passed : (act : Action) (before after : ℕ) (acted : Bool) (s mid new : Sides) → acted ≡ false → 0 < length s.ahead → s.is_open ≡ true → IsPerformed (act (cut_with before s)) acted before after s mid → fits_next 1 mid ≡ true → new ≡ after_next_glyphs 1 mid
    → IsStep act before after s new
step_passed act before after acted s mid new fails lt opened_before d room is =
    let D : Bool → Type 0 = λ b. IsPerformed (act (cut_with before s)) b before after s mid in
    let p = passes_of act before after s mid (act (cut_with before s)) refl (subst D fails d) in
    step_over act before after acted s mid new fails lt (room_of before p.0 s mid opened_before p.3 ∙ room) d is

-- ---- a step that is refused

pub given_up : (act : Action) (before : ℕ) (s : Sides) (cause : ShapeCause) → 0 < length s.ahead → act (cut_with before s) ≡ Refuses cause → IsGivenUp act before s cause
given_up act before s cause lt e = λ v n. going_on act v n before s lt ∙ ap (λ o. after_outcome (outcome_past_item o (cut_with before s)) (trials act v n) v (cut_with before s)) e

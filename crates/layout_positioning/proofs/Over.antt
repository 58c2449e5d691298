-- A lookup on its way over a buffer without an output.
use Rattle.std.proofs.Common.{ℕ, suc, ◌≡◌, ◌≤◌, ◌<◌, ◌+◌, ◌-◌, ◌++◌, nat_le, true, [], length, drop, Err, refl, sym, ap, subst, ◌∙◌, arith}
use Rattle.std.proofs.lemmas.Bool.Decides.{nat_tests}
use Rattle.std.proofs.lemmas.List.{take-append-drop, length-drop, length-map, length-append}
use Rattle.buffer_common.specs.declared.direction.Direction.{Direction}
use Rattle.buffer_glyphs.specs.declared.cause.ShapeCause.{ShapeCause}
use Rattle.buffer_glyphs.specs.Items.{item_of, strip}
use Rattle.buffer_glyphs.specs.Origins.{origins}
use Rattle.buffer_core.specs.Readings.{BufferState, Follows, reading_of}
use Rattle.buffer_core.specs.Steps.{follows_from}
use Rattle.buffer_core.specs.Sides.{Sides, all_glyphs, state_of, settings_of}
use Rattle.buffer_core.specs.Moving.{after_move_to}
use Rattle.buffer_stages.specs.Actions.{Cut, uncut_with_positions, Action}
use Rattle.buffer_stages.specs.Buffers.{are_glyphs, IsStill}
use Rattle.buffer_stages.specs.Performing.{cut_with}
use Rattle.buffer_stages.specs.Ready.{IsReady, IsDoneFrom, state_with}
use Rattle.buffer_stages.proofs.Lemmas.Frames.{still_settings, still_open, still_refused, still_direction}
use Rattle.layout_match.specs.Trying.{trials}
use Rattle.layout_match.specs.Steps.{IsGivenUp, IsIdleRun, IsStep}
use Rattle.layout_match.proofs.Lemmas.Passage.{IsUnderway, all_tried, begun, gone_on, gone_over}
use Rattle.layout_positioning.specs.Lookups.{positioning_pass}
use Rattle.buffer_core.proofs.Moved.{moved_to_all as moved_all}

-- in a list within its limit a glyph more may be done
pub room_closed : (r n : ℕ) (s : Sides) → n ≡ length (all_glyphs s) → n ≤ s.max_len → 0 < length s.ahead → nat_le (length (cut_with r s).front + 1) (cut_with r s).max_len ≡ true
room_closed r n s count within some =
    let front : length (strip s.behind) ≡ length s.behind = length-map s.behind item_of in
    let both = length-append s.behind s.ahead in
    let le : length (strip s.behind) + 1 ≤ s.max_len = omega (arith, front, both, count, within, some) in
    grind (arith, nat_tests, le)

-- ---- steps, with the direction of the buffer at the start

pub over_next : (act : Direction → Action) (count r : ℕ) (start now next : Sides) → 0 < length now.ahead → IsUnderway (act start.direction) count r r start now → IsStep (act now.direction) r r now next → IsUnderway (act start.direction) count r r start next
over_next act count r start now next some u st =
    let P : Direction → Type 0 = λ d. IsStep (act d) r r now next in
    gone_on (act start.direction) count r r r start now next some u (subst P (still_direction start now u.still) st)

pub over_run : (act : Direction → Action) (count r : ℕ) (start now next : Sides) → IsUnderway (act start.direction) count r r start now → IsIdleRun (act now.direction) now next → IsUnderway (act start.direction) count r r start next
over_run act count r start now next u run =
    let P : Direction → Type 0 = λ d. IsIdleRun (act d) now next in
    gone_over (act start.direction) count r r start now next u (subst P (still_direction start now u.still) run)

-- the run before the first glyph at which the lookup is tried
pub first_run : (act : Action) (r : ℕ) (s next : Sides) → IsReady s → IsIdleRun act s next → IsUnderway act (length (all_glyphs s)) r r s next
first_run act r s next ready run =
    let ahead : length s.ahead ≡ length (all_glyphs s) = sym (ap (λ gs. length (gs ++ s.ahead)) ready.front) in
    gone_over act (length (all_glyphs s)) r r s s next (begun act (length (all_glyphs s)) r s ahead) run

-- a step, then the run after it
pub step_and_run : (act : Direction → Action) (count r : ℕ) (start now mid next : Sides) → 0 < length now.ahead → IsUnderway (act start.direction) count r r start now → IsStep (act now.direction) r r now mid → IsIdleRun (act mid.direction) mid next → IsUnderway (act start.direction) count r r start next
step_and_run act count r start now mid next some u step run = over_run act count r start mid next (over_next act count r start now mid some u step) run

-- fewer glyphs are ahead then
pub step_and_run_fewer : (act next_act : Action) (r : ℕ) (now mid next : Sides) → 0 < length now.ahead → IsStep act r r now mid → IsIdleRun next_act mid next → length next.ahead < length now.ahead
step_and_run_fewer act next_act r now mid next some step run =
    let left = length-drop run.count mid.ahead in
    let same : length next.ahead ≡ length (drop run.count mid.ahead) = ap (λ (t : Sides). length t.ahead) run.moved in
    omega (arith, left, same, step.less, some)

ready_cut : (r : ℕ) (s : Sides) → s.behind ≡ [] → cut_with r s ≡ uncut_with_positions (state_with r s).view
ready_cut r s none = rw none refl

pub over_refused : (act : Direction → Action) (count r : ℕ) (s now : Sides) (cause : ShapeCause) → IsReady s → count ≡ length (all_glyphs s) → 0 < length now.ahead → IsUnderway (act s.direction) count r r s now → IsGivenUp (act now.direction) r now cause
    → reading_of (positioning_pass (act s.direction)) (state_with r s) ≡ Err cause
over_refused act count r s now cause ready len some u given =
    let G : Direction → Type 0 = λ d. IsGivenUp (act d) r now cause in
    let there = subst G (still_direction s now u.still) given in
    let v = (state_with r s).view in
    let more : u.left ≡ suc (u.left - 1) = omega (arith, u.enough, some) in
    let here : trials (act s.direction) v u.left (cut_with r now) ≡ Err cause = ap (λ k. trials (act s.direction) v k (cut_with r now)) more ∙ there v (u.left - 1) in
    let all : trials (act s.direction) v count (cut_with r s) ≡ Err cause = u.refuses v cause here in
    let n : length v.items ≡ count = length-map (all_glyphs s) item_of ∙ sym len in
    let C : Cut → Type 0 = λ c. trials (act s.direction) v count c ≡ Err cause in
    let whole = subst C (ready_cut r s ready.front) all in
    rw n whole

-- ---- at the end

-- without an output as many glyphs were read as stand behind the cursor
read_at_front : (n : ℕ) (s : Sides) → n ≡ s.read + length s.ahead → n ≡ length (all_glyphs s) → (after_move_to 0 s).read ≡ 0
read_at_front n s input count = let both = length-append s.behind s.ahead in omega (arith, input, count, both)

-- a lookup that was tried everywhere, once the cursor is before all glyphs
pub looked_over_done : (act : Action) (end count r : ℕ) (s now new : Sides) → IsReady s → count ≡ length (all_glyphs s) → length now.ahead ≡ 0 → IsUnderway act count r r s now → end ≡ now.read + length now.ahead → end ≡ length (all_glyphs now) → new ≡ after_move_to 0 now
    → length new.positions ≡ length (all_glyphs new) → IsDoneFrom r r (positioning_pass act) s new
looked_over_done act end count r s now new ready len none u0 input counted is placed =
    let C : ℕ → Type 0 = λ n. IsUnderway act n r r s now in
    let u : IsUnderway act (length (all_glyphs s)) r r s now = subst C len u0 in
    let v = (state_with r s).view in
    let all : all_glyphs new ≡ all_glyphs now = ap all_glyphs is ∙ moved_all 0 now in
    let still : IsStill s now = u.still in
    let settings = still_settings s now still in
    let same : state_with r new ≡ state_with r now = ap (state_with r) is ∙ ap (λ gs. record (state_with r now) { view = record (state_with r now).view { items = strip gs }; origins = origins gs }) (moved_all 0 now) in
    let start : cut_with r s ≡ uncut_with_positions v = ready_cut r s ready.front in
    let Q : Cut → Type 0 = λ c. Follows (trials act v (length (all_glyphs s)) c) (state_of s) (state_with r now) in
    let walked = subst Q start (all_tried act (length (all_glyphs s)) r r v s now refl none u) in
    let n : length (strip (all_glyphs s)) ≡ length (all_glyphs s) = length-map (all_glyphs s) item_of in
    let there : Follows (trials act v (length v.items) (uncut_with_positions v)) (state_with r s) (state_with r now) = rw n (follows_from (trials act v (length (all_glyphs s)) (uncut_with_positions v)) (state_of s) (state_with r s) (state_with r now) refl refl refl walked) in
    let F : BufferState → Type 0 = λ q. Follows (reading_of (positioning_pass act) (state_with r s)) (state_with r s) q in
    record {
      follows = subst F (sym same) there;
      settings = ap settings_of is ∙ settings;
      ready = record {
        closed = ap (λ (t : Sides). t.is_open) is ∙ still_open s now still ∙ ready.closed;
        front = ap (λ (t : Sides). t.behind) is;
        unread = ap (λ (t : Sides). t.read) is ∙ read_at_front end now input counted;
        placed = placed;
        unrefused = ap (λ (t : Sides). t.has_refused) is ∙ still_refused s now still ∙ ready.unrefused;
      };
      numbers = λ h. ap (λ gs. are_glyphs (strip gs)) all ∙ u.numbers h;
    }

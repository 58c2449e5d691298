-- A lookup on its way over a buffer.
use Rattle.std.proofs.Common.{ℕ, suc, ◌≡◌, ◌≤◌, ◌<◌, ◌+◌, ◌-◌, true, false, nat_le, [], length, Ok, Err, refl, sym, ap, subst, ◌∙◌, arith}
use Rattle.std.proofs.lemmas.List.{map-append, length-drop, length-map, length-replicate}
use Rattle.buffer_glyphs.specs.declared.cause.ShapeCause.{ShapeCause}
use Rattle.buffer_glyphs.specs.declared.cause.ShapeCause.TheVariants.{TooLong}
use Rattle.buffer_glyphs.specs.Items.{item_of, strip, zero_position}
use Rattle.buffer_glyphs.specs.Origins.{origins}
use Rattle.buffer_core.specs.Readings.{View, Reading, BufferState, Follows, reading_of, with_events}
use Rattle.buffer_core.specs.Steps.{follows_then, follows_from, refused_first, refused_then}
use Rattle.buffer_core.specs.Sides.{Sides, all_glyphs, state_of, view_of, items_of, with_output, after_sync, fits_joined, zero_positions}
use Rattle.layout_match.specs.Applied.{ApplyContext}
use Rattle.buffer_stages.specs.Actions.{view_at, uncut, Action}
use Rattle.buffer_stages.specs.Buffers.{are_glyphs, frame_of, IsStill}
use Rattle.buffer_stages.specs.Performing.{cut_with}
use Rattle.buffer_stages.specs.Ready.{IsReady, IsDoneFrom, state_with}
use Rattle.buffer_stages.proofs.Lemmas.Frames.{still_settings, still_refused, still_direction}
use Rattle.layout_match.specs.Trying.{trials, with_zero_positions, whole_list, forward_pass}
use Rattle.layout_match.specs.Steps.{IsStep, IsGivenUp, IsIdleRun, IsIdleRunTooLong}
use Rattle.layout_match.proofs.Lemmas.Runs.{run_refused, run_trials}
use Rattle.layout_match.proofs.Lemmas.Steps.{ended}
use Rattle.buffer_core.proofs.Kept.{moved_all as run_moved_all}
use Rattle.buffer_facts.proofs.Lists.{empty_by_length as empty}

-- a lookup on its way from a start, from which so many steps may be made: so many of them are left
pub record IsUnderway (act : Action) (count before after : ℕ) (start now : Sides) : Type 0 where
  pub left : ℕ
  pub still : IsStill start now
  pub enough : length now.ahead ≤ left
  pub numbers : are_glyphs (items_of start) ≡ true → are_glyphs (items_of now) ≡ true
  pub follows : (v : View) (final : BufferState) → Follows (trials act v left (cut_with after now)) (state_of now) final → Follows (trials act v count (cut_with before start)) (state_of start) final
  pub refuses : (v : View) (cause : ShapeCause) → trials act v left (cut_with after now) ≡ Err cause → trials act v count (cut_with before start) ≡ Err cause

pub begun : (act : Action) (count r : ℕ) (s : Sides) → length s.ahead ≡ count → IsUnderway act count r r s s
begun act count r s len =
    record {
      left = count;
      still = refl;
      enough = omega (arith, len);
      numbers = λ h. h;
      follows = λ v final f. f;
      refuses = λ v cause e. e;
    }

-- a rule was tried at the cursor
pub gone_on : (act : Action) (count before r after : ℕ) (start now next : Sides) → 0 < length now.ahead → IsUnderway act count before r start now → IsStep act r after now next → IsUnderway act count before after start next
gone_on act count before r after start now next some u st =
    let n = u.left - 1 in
    let more : u.left ≡ suc n = omega (arith, u.enough, some) in
    record {
      left = n;
      still = st.still ∙ u.still;
      enough = omega (arith, u.enough, st.less, some);
      numbers = λ h. st.numbers (u.numbers h);
      follows = λ v final f.
          let P : ℕ → Type 0 = λ k. Follows (trials act v k (cut_with r now)) (state_of now) final in
          u.follows v final (subst P (sym more) (st.follows v n final f));
      refuses = λ v cause e. u.refuses v cause (ap (λ k. trials act v k (cut_with r now)) more ∙ st.refuses v n cause e);
    }

-- the cursor moved over a run of glyphs that the lookup isn't tried at
pub gone_over : (act : Action) (count before r : ℕ) (start now next : Sides) → IsUnderway act count before r start now → IsIdleRun act now next → IsUnderway act count before r start next
gone_over act count before r start now next u run =
    let k = run.count in
    let n = u.left - k in
    let more : u.left ≡ k + n = omega (arith, u.enough, run.within) in
    let same : all_glyphs next ≡ all_glyphs now = ap all_glyphs run.moved ∙ run_moved_all k now in
    let still : IsStill now next = ap frame_of run.moved in
    let state : state_of next ≡ state_of now = ap state_of run.moved ∙ ap (λ gs. record (state_of now) { view = record (view_of now) { items = strip gs }; origins = origins gs }) (run_moved_all k now) in
    let ahead : length next.ahead ≡ length now.ahead - k = ap (λ (t : Sides). length t.ahead) run.moved ∙ length-drop k now.ahead in
    let is : (v : View) → trials act v u.left (cut_with r now) ≡ trials act v n (cut_with r next) = λ v. ap (λ m. trials act v m (cut_with r now)) more ∙ run_trials act v n r now next run in
    record {
      left = n;
      still = still ∙ u.still;
      enough = omega (arith, u.enough, ahead);
      numbers = λ h. ap (λ gs. are_glyphs (strip gs)) same ∙ u.numbers h;
      follows = λ v final f.
          let P : Reading → Type 0 = λ q. Follows q (state_of now) final in
          let Q : BufferState → Type 0 = λ t. Follows (trials act v n (cut_with r next)) t final in
          u.follows v final (subst P (sym (is v)) (subst Q state f));
      refuses = λ v cause e. u.refuses v cause (is v ∙ e);
    }

-- ---- at the end nothing is left to read

pub ended_view : (r : ℕ) (v : View) (start now : Sides) → v.direction ≡ start.direction → IsStill start now → (state_with r now).view ≡ view_at v (cut_with r now)
ended_view r v start now direction still =
    ap (λ xs. record (state_with r now).view { items = xs }) (map-append item_of now.behind now.ahead) ∙ ap (λ d. record (view_at v (cut_with r now)) { direction = d }) (still_direction start now still ∙ sym direction)

-- where nothing is ahead, all was tried
pub all_tried : (act : Action) (count before after : ℕ) (v : View) (start now : Sides) → v.direction ≡ start.direction → length now.ahead ≡ 0 → IsUnderway act count before after start now → Follows (trials act v count (cut_with before start)) (state_of start) (state_with after now)
all_tried act count before after v start now direction none u =
    let c = cut_with after now in
    let end : trials act v u.left c ≡ Ok (with_events [] (view_at v c)) = ended act v u.left c (ap strip (empty now.ahead none)) in
    let P : Reading → Type 0 = λ q. Follows q (state_of now) (state_with after now) in
    let there : Follows (Ok (with_events [] (view_at v c))) (state_of now) (state_with after now) = ap (λ w. record { view = w; origins = (state_of now).origins; level = now.level; asks = (state_of now).asks }) (ended_view after v start now direction u.still) in
    u.follows v (state_with after now) (subst P (sym end) there)

-- the whole list was tried
walked : (act : Action) (r after : ℕ) (s mid : Sides) → length mid.ahead ≡ 0 → IsUnderway act (length (all_glyphs s)) r after (with_output s) mid → Follows (trials act (state_with r s).view (length (strip (all_glyphs s))) (uncut (state_with r s).view)) (state_with r s) (state_with after mid)
walked act r after s mid none u =
    let v = (state_with r s).view in
    let first : Follows (trials act v (length (all_glyphs s)) (uncut v)) (state_with r s) (state_with after mid) = follows_from (trials act v (length (all_glyphs s)) (uncut v)) (state_of (with_output s)) (state_with r s) (state_with after mid) refl refl refl (all_tried act (length (all_glyphs s)) r after v (with_output s) mid refl none u) in
    let n : length (strip (all_glyphs s)) ≡ length (all_glyphs s) = length-map (all_glyphs s) item_of in
    rw n first

-- whether both sides are one list is what the reading asks
room_of : (r : ℕ) (mid : Sides) → mid.has_refused ≡ false → nat_le (length (items_of mid)) mid.max_len ≡ fits_joined mid
room_of r mid unrefused =
    let n : length (items_of mid) ≡ length (all_glyphs mid) + 0 = length-map (all_glyphs mid) item_of ∙ sym (omega arith) in
    ap (λ k. nat_le k mid.max_len) n ∙ rw unrefused refl

synced_follows : (r : ℕ) (mid : Sides) → mid.has_refused ≡ false → fits_joined mid ≡ true → Follows (reading_of whole_list (state_with r mid)) (state_with r mid) (state_with r (after_sync mid))
synced_follows r mid unrefused room =
    let v = (state_with r mid).view in
    let is : whole_list v ≡ Ok (with_zero_positions v) = rw (room_of r mid unrefused ∙ room) refl in
    let P : Reading → Type 0 = λ q. Follows q (state_with r mid) (state_with r (after_sync mid)) in
    subst P (sym is) (ap (λ n. record (state_with r mid) { view = record v { positions = zero_positions n } }) (sym (length-map (all_glyphs mid) item_of)))

-- a lookup that was tried everywhere, once both sides are one list
pub looked_up_done : (act : Action) (count r after : ℕ) (s mid new : Sides) → IsReady s → count ≡ length (all_glyphs s) → length mid.ahead ≡ 0 → IsUnderway act count r after (with_output s) mid → fits_joined mid ≡ true → new ≡ after_sync mid → IsDoneFrom r after (forward_pass act) s new
looked_up_done act count r after s mid new ready len none u room is =
    let C : ℕ → Type 0 = λ n. IsUnderway act n r after (with_output s) mid in
    let done : IsUnderway act (length (all_glyphs s)) r after (with_output s) mid = subst C len u in
    let unrefused : mid.has_refused ≡ false = still_refused (with_output s) mid u.still ∙ ready.unrefused in
    let v = (state_with r s).view in
    let P : Sides → Type 0 = λ t. IsDoneFrom r after (forward_pass act) s t in
    let kept : IsDoneFrom r after (forward_pass act) s (after_sync mid) = record {
      follows = follows_then (trials act v (length v.items) (uncut v)) whole_list (state_with r s) (state_with after mid) (state_with after (after_sync mid)) (walked act r after s mid none done) (synced_follows after mid unrefused room);
      ready = record { closed = refl; front = refl; unread = refl; placed = length-replicate (length (all_glyphs mid)) zero_position; unrefused = unrefused };
      settings = still_settings (with_output s) mid u.still;
      numbers = u.numbers;
    } in
    subst P (sym is) kept

-- both sides are too long for one list
pub looked_up_long : (act : Action) (count r after : ℕ) (s mid : Sides) → IsReady s → count ≡ length (all_glyphs s) → length mid.ahead ≡ 0 → IsUnderway act count r after (with_output s) mid → fits_joined mid ≡ false → reading_of (forward_pass act) (state_with r s) ≡ Err TooLong
looked_up_long act count r after s mid ready len none u full =
    let C : ℕ → Type 0 = λ n. IsUnderway act n r after (with_output s) mid in
    let done : IsUnderway act (length (all_glyphs s)) r after (with_output s) mid = subst C len u in
    let unrefused : mid.has_refused ≡ false = still_refused (with_output s) mid u.still ∙ ready.unrefused in
    let v = (state_with r s).view in
    let long : whole_list (state_with after mid).view ≡ Err TooLong = rw (room_of after mid unrefused ∙ full) refl in
    refused_then (trials act v (length v.items) (uncut v)) whole_list (state_with r s) (state_with after mid) TooLong (walked act r after s mid none done) long

-- what is refused from here is refused from the start
refused_all : (act : Action) (count r after : ℕ) (s now : Sides) (cause : ShapeCause) → count ≡ length (all_glyphs s) → (u : IsUnderway act count r after (with_output s) now) → ((v : View) → trials act v u.left (cut_with after now) ≡ Err cause) → reading_of (forward_pass act) (state_with r s) ≡ Err cause
refused_all act count r after s now cause len u here =
    let v = (state_with r s).view in
    let all : trials act v count (uncut v) ≡ Err cause = u.refuses v cause (here v) in
    let n : length v.items ≡ count = length-map (all_glyphs s) item_of ∙ sym len in
    refused_first (trials act v (length v.items) (uncut v)) whole_list cause (rw n all)

-- a step was refused
pub step_refused : (act : Action) (count before after : ℕ) (start now : Sides) (cause : ShapeCause) → 0 < length now.ahead → (u : IsUnderway act count before after start now) → IsGivenUp act after now cause → (v : View) → trials act v u.left (cut_with after now) ≡ Err cause
step_refused act count before after start now cause some u given v =
    let more : u.left ≡ suc (u.left - 1) = omega (arith, u.enough, some) in
    ap (λ k. trials act v k (cut_with after now)) more ∙ given v (u.left - 1)

pub looked_up_refused : (act : Action) (count r after : ℕ) (s now : Sides) (cause : ShapeCause) → count ≡ length (all_glyphs s) → 0 < length now.ahead → IsUnderway act count r after (with_output s) now → IsGivenUp act after now cause → reading_of (forward_pass act) (state_with r s) ≡ Err cause
looked_up_refused act count r after s now cause len some u given = refused_all act count r after s now cause len u (step_refused act count r after (with_output s) now cause some u given)

-- there was no room for a run of glyphs
pub looked_up_full : (act : Action) (count r after : ℕ) (s now : Sides) → count ≡ length (all_glyphs s) → IsUnderway act count r after (with_output s) now → IsIdleRunTooLong act now → reading_of (forward_pass act) (state_with r s) ≡ Err TooLong
looked_up_full act count r after s now len u run =
    let more : u.left ≡ run.count + (u.left - run.count) = omega (arith, u.enough, run.within) in
    refused_all act count r after s now TooLong len u (λ v. ap (λ k. trials act v k (cut_with after now)) more ∙ run_refused act v (u.left - run.count) after now run)

-- ---- with what a lookup is applied may be told otherwise

pub gone_on_by : (act : ApplyContext → Action) (a b : ApplyContext) (count before r after : ℕ) (start now next : Sides) → 0 < length now.ahead → a ≡ b → IsUnderway (act b) count before r start now → IsStep (act a) r after now next → IsUnderway (act b) count before after start next
gone_on_by act a b count before r after start now next some same u st =
    let P : ApplyContext → Type 0 = λ k. IsStep (act k) r after now next in
    gone_on (act b) count before r after start now next some u (subst P same st)

pub gone_over_by : (act : ApplyContext → Action) (a b : ApplyContext) (count before r : ℕ) (start now next : Sides) → a ≡ b → IsUnderway (act b) count before r start now → IsIdleRun (act a) now next → IsUnderway (act b) count before r start next
gone_over_by act a b count before r start now next same u run =
    let P : ApplyContext → Type 0 = λ k. IsIdleRun (act k) now next in
    gone_over (act b) count before r start now next u (subst P same run)

pub looked_up_refused_by : (act : ApplyContext → Action) (a b : ApplyContext) (count r after : ℕ) (s start now : Sides) (cause : ShapeCause) → count ≡ length (all_glyphs s) → 0 < length now.ahead → a ≡ b → start ≡ with_output s → IsUnderway (act b) count r after start now → IsGivenUp (act a) after now cause
    → reading_of (forward_pass (act b)) (state_with r s) ≡ Err cause
looked_up_refused_by act a b count r after s start now cause len some same opened u given =
    let P : ApplyContext → Type 0 = λ k. IsGivenUp (act k) after now cause in
    let S : Sides → Type 0 = λ t. IsUnderway (act b) count r after t now in
    looked_up_refused (act b) count r after s now cause len some (subst S opened u) (subst P same given)

pub looked_up_full_by : (act : ApplyContext → Action) (a b : ApplyContext) (count r after : ℕ) (s start now : Sides) → count ≡ length (all_glyphs s) → a ≡ b → start ≡ with_output s → IsUnderway (act b) count r after start now → IsIdleRunTooLong (act a) now → reading_of (forward_pass (act b)) (state_with r s) ≡ Err TooLong
looked_up_full_by act a b count r after s start now len same opened u run =
    let P : ApplyContext → Type 0 = λ k. IsIdleRunTooLong (act k) now in
    let S : Sides → Type 0 = λ t. IsUnderway (act b) count r after t now in
    looked_up_full (act b) count r after s now len (subst S opened u) (subst P same run)

-- The stage that follows links divides texts.
use Rattle.std.proofs.Common.{ℕ, ◌≡◌, inr, Bool, true, false, List, [], Ok, length, arith, refl, ap, sym, subst, ◌∙◌}
use Rattle.buffer_common.specs.declared.direction.Direction.{Direction}
use Rattle.buffer_glyphs.specs.declared.level.BufferClusterLevel.{BufferClusterLevel}
use Rattle.buffer_glyphs.specs.Items.{Position}
use Rattle.buffer_glyphs.specs.Origins.{Origin}
use Rattle.buffer_core.specs.Readings.{View, Read, BufferState, state_after, always, with_events}
use Rattle.buffer_parts.specs.Breaks.Unsafe.{IsUnsafeAt, HaveSafeBreaks}
use Rattle.buffer_parts.specs.Breaks.Fragments.{as_they_stand}
use Rattle.buffer_parts.specs.Breaks.Divisible.{IsSpent, IsBreakable}
use Rattle.layout_offsets.specs.Links.{position_at}
use Rattle.layout_offsets.specs.FollowedLinks.{finished_positions}
use Rattle.layout_offsets.specs.Finishing.{has_attachments, all_drawn_if, links_followed}
use Rattle.layout_laws.specs.Breaks.Positioned.{LeadInside, AreFlagged}
use Rattle.layout_laws.specs.Breaks.Positionable.{StaysPositionable}
use Rattle.layout_laws.specs.Breaks.PositionEnds.{FollowingIsDivisible}
use Rattle.layout_laws.proofs.BreakLemmas.PositionStages.{with_positions, positions_divide}
use Rattle.layout_laws.proofs.BreakLemmas.Following.{links_are_followed_apart, finished_inside, finished_linkless}
use Rattle.buffer_parts.specs.Lemmas.Stages.{same_read as read_same}
use Rattle.layout_offsets.proofs.Kept.{finished_length as finished_long}

-- a state with its links followed
abbrev drawn_state : BufferState → BufferState
drawn_state s = with_positions (finished_positions s.view.direction s.view.positions) s

-- where attachments are flagged, all links are followed
finished_read : (v : View) → AreFlagged v.scratch_flags v.positions → links_followed v ≡ with_events [] (record v { positions = finished_positions v.direction v.positions })
finished_read v h = by_flag (has_attachments v.scratch_flags) refl
  where
    by_flag : (b : Bool) → has_attachments v.scratch_flags ≡ b → all_drawn_if b v ≡ with_events [] (record v { positions = finished_positions v.direction v.positions })
    by_flag true e = refl
    by_flag false e = ap (λ (ps : List Position). with_events [] (record v { positions = ps })) (sym (finished_linkless v.direction v.positions (h e)))

finished_state : (s : BufferState) (r : Read) → AreFlagged s.view.scratch_flags s.view.positions → always links_followed s.view ≡ Ok r → drawn_state s ≡ state_after r s
finished_state s r h e = ap (λ (x : Read). state_after x s) (sym (finished_read s.view h) ∙ read_same (links_followed s.view) r e)

still_flagged : (d : Direction) (flags : ℕ) (ps : List Position) → AreFlagged flags ps → AreFlagged flags (finished_positions d ps)
still_flagged d flags ps h e i = ap (λ (qs : List Position). (position_at i qs).attach_chain) (finished_linkless d ps (h e)) ∙ h e i

line_finished : (falls : Bool) (d : Direction) (es ls : List Position) → LeadInside es → LeadInside ls → finished_positions d (as_they_stand falls es ls) ≡ as_they_stand falls (finished_positions d es) (finished_positions d ls)
line_finished false d es ls h k = links_are_followed_apart d es ls h k
line_finished true d es ls h k = links_are_followed_apart d ls es k h

-- of any state, whether attachments are flagged or not
followed_long : (v : View) → length (links_followed v).view.positions ≡ length v.positions
followed_long v = by_flag (has_attachments v.scratch_flags)
  where
    by_flag : (b : Bool) → length (all_drawn_if b v).view.positions ≡ length v.positions
    by_flag true = finished_long v.direction v.positions
    by_flag false = refl

followed_items : (v : View) → length (links_followed v).view.items ≡ length v.items
followed_items v = by_flag (has_attachments v.scratch_flags)
  where
    by_flag : (b : Bool) → length (all_drawn_if b v).view.items ≡ length v.items
    by_flag true = refl
    by_flag false = refl

followed_origins : (s : BufferState) → (state_after (links_followed s.view) s).origins ≡ s.origins
followed_origins s = by_flag (has_attachments s.view.scratch_flags)
  where
    by_flag : (b : Bool) → (state_after (all_drawn_if b s.view) s).origins ≡ s.origins
    by_flag true = refl
    by_flag false = refl

still_breakable : (s : BufferState) → IsBreakable s → IsBreakable (state_after (links_followed s.view) s)
still_breakable s b = record {
  breaks = subst (HaveSafeBreaks s.asks s.level) (sym (followed_origins s)) b.breaks;
  whole = record {
    positions = followed_long s.view ∙ b.whole.positions ∙ sym (followed_items s.view);
    origins = ap (λ (os : List Origin). length os) (followed_origins s) ∙ b.whole.origins ∙ sym (followed_items s.view);
  };
}

spent : (level : BufferClusterLevel) (v : View) (b : Bool) → IsSpent level v (all_drawn_if b v)
spent level v true = record { budget = λ h. h; numbers = λ few. omega arith }
spent level v false = record { budget = λ h. h; numbers = λ few. omega arith }

pub following_is_divisible : FollowingIsDivisible
following_is_divisible falls = record {
  divides = λ c whole earlier later r e l ready f q is_r is_e is_l spared_r spared_e spared_l.
      let d = whole.view.direction in
      let ps = finished_positions d whole.view.positions in
      let es = finished_positions earlier.view.direction earlier.view.positions in
      let ls = finished_positions later.view.direction later.view.positions in
      let line : ps ≡ as_they_stand falls es ls =
      ap (finished_positions d) f.positions ∙ line_finished falls d earlier.view.positions later.view.positions q.early_links q.late_links
      ∙ ap (λ (x : Direction). as_they_stand falls (finished_positions x earlier.view.positions) (finished_positions d later.view.positions)) (sym f.early_of.direction)
      ∙ ap (λ (x : Direction). as_they_stand falls es (finished_positions x later.view.positions)) (sym f.late_of.direction) in
      subst (λ (s : BufferState). StaysPositionable falls c s (state_after e earlier) (state_after l later)) (finished_state whole r q.flagged is_r)
      (subst (λ (s : BufferState). StaysPositionable falls c (drawn_state whole) s (state_after l later)) (finished_state earlier e q.early_flagged is_e)
      (subst (λ (s : BufferState). StaysPositionable falls c (drawn_state whole) (drawn_state earlier) s) (finished_state later l q.late_flagged is_l)
      (inr (
        positions_divide falls c whole earlier later ps es ls f line (finished_long earlier.view.direction earlier.view.positions) (finished_long later.view.direction later.view.positions),
        record {
          early_links = finished_inside earlier.view.direction earlier.view.positions q.early_links;
          late_links = finished_inside later.view.direction later.view.positions q.late_links;
          apart = q.apart;
          flagged = still_flagged d whole.view.scratch_flags whole.view.positions q.flagged;
          early_flagged = still_flagged earlier.view.direction earlier.view.scratch_flags earlier.view.positions q.early_flagged;
          late_flagged = still_flagged later.view.direction later.view.scratch_flags later.view.positions q.late_flagged;
        },
      ))));
  breakable = λ s r is b. subst (λ (x : Read). IsBreakable (state_after x s)) (read_same (links_followed s.view) r is) (still_breakable s b);
  unsafe = λ s r c is b u. subst (λ (x : Read). IsUnsafeAt c (state_after x s).origins) (read_same (links_followed s.view) r is) (subst (IsUnsafeAt c) (sym (followed_origins s)) u);
  spends = λ level v r is. subst (IsSpent level v) (read_same (links_followed v) r is) (spent level v (has_attachments v.scratch_flags));
}

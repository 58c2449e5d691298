-- The ends of positioning are stages.
use Rattle.std.proofs.Common.{ℕ, ◌≡◌, ◌<◌, ◌+◌, ◌++◌, arith, set, take, ◌==◌, Bool, true, false, not, List, [], Ok, length, map, drop, refl, sym, ap, subst, ◌∙◌}
use Rattle.std.specs.Prelude.{ℤ, pos, bit_and}
use Rattle.std.proofs.lemmas.List.{take_at, length-map, length-set, set-get_or}
use Rattle.std.proofs.lemmas.Nat.{and_assoc}
use Rattle.buffer_glyphs.specs.Items.{Position, zero_position}
use Rattle.buffer_glyphs.proofs.Lists.{map_step}
use Rattle.buffer_core.specs.Readings.{View, Read, always, with_events, Follows}
use Rattle.buffer_core.specs.Lending.{refilled_list, with_positions_refilled}
use Rattle.buffer_core.specs.Sides.{Sides, state_of, stage_flags, view_of}
use Rattle.buffer_stages.specs.Ready.{IsDone, IsReady}
use Rattle.layout_offsets.specs.FollowedLinks.{finished_positions}
use Rattle.layout_offsets.specs.Links.{position_at}
use Rattle.layout_offsets.specs.Finishing.{has_attachments, all_drawn, all_drawn_if, links_followed}
use Rattle.layout_offsets.specs.Starting.{links_cleared, unattached_position}
use Rattle.layout_offsets.proofs.Kept.{finished_length}

-- a list of the same length takes the whole place
refilled_whole : (new old : List Position) → length new ≡ length old → refilled_list new old ≡ new
refilled_whole new old e = take_at new (drop (length new) old) (length old) e

-- positions that are written, as many as before
written_done : (ps : List Position) (stage : View → Read) (s : Sides) → length ps ≡ length s.positions → stage (view_of s) ≡ with_events [] (record (view_of s) { positions = ps }) → IsReady s
    → IsDone (always stage) s (with_positions_refilled ps s)
written_done ps stage s len e ready =
    subst (λ (qs : List Position). IsDone (always stage) s (record s { positions = qs })) (sym (refilled_whole ps s.positions len)) record {
      follows = subst (λ (r : Read). Follows (Ok r) (state_of s) (state_of (record s { positions = ps }))) (sym e) refl;
      settings = refl;
      ready = record { closed = ready.closed; front = ready.front; unread = ready.unread; placed = len ∙ ready.placed; unrefused = ready.unrefused };
      numbers = λ are. are;
    }

pub cleared_done : (ps : List Position) (s new : Sides) → new ≡ with_positions_refilled ps s → ps ≡ map unattached_position s.positions → IsReady s → IsDone (always links_cleared) s new
cleared_done ps s new e is ready =
    subst (λ (n : Sides). IsDone (always links_cleared) s n) (sym (e ∙ ap (λ (qs : List Position). with_positions_refilled qs s) is))
    (written_done (map unattached_position s.positions) links_cleared s (length-map s.positions unattached_position) refl ready)

pub drawn_done : (ps : List Position) (s new : Sides) → new ≡ with_positions_refilled ps s → ps ≡ finished_positions s.direction s.positions → IsReady s → IsDone (always all_drawn) s new
drawn_done ps s new e is ready =
    subst (λ (n : Sides). IsDone (always all_drawn) s n) (sym (e ∙ ap (λ (qs : List Position). with_positions_refilled qs s) is))
    (written_done (finished_positions s.direction s.positions) all_drawn s (finished_length s.direction s.positions) refl ready)

-- ---- whether glyphs were attached

-- that there are glyph flags is told by another bit
attachments_told : (flags : ℕ) → has_attachments (stage_flags flags) ≡ not (bit_and flags 8 == 0)
attachments_told flags = ap (λ (n : ℕ). not (n == 0)) (and_assoc 8 flags 0xFFFF_FFDF)

stage_is : (b : Bool) (s new : Sides) → not (bit_and s.scratch_flags 8 == 0) ≡ b → IsDone (always (all_drawn_if b)) s new → IsDone (always links_followed) s new
stage_is b s new e done = record {
  follows = subst (λ (c : Bool). Follows (Ok (all_drawn_if c (view_of s))) (state_of s) (state_of new)) (sym (attachments_told s.scratch_flags ∙ e)) done.follows;
  settings = done.settings;
  ready = done.ready;
  numbers = done.numbers;
}

pub attached_done : (s new : Sides) → (bit_and s.scratch_flags 8 == 0) ≡ false → IsDone (always all_drawn) s new → IsDone (always links_followed) s new
attached_done s new e done = stage_is true s new (ap not e) record { follows = done.follows; settings = done.settings; ready = done.ready; numbers = done.numbers }

pub unattached_done : (s : Sides) → (bit_and s.scratch_flags 8 == 0) ≡ true → IsReady s → IsDone (always links_followed) s s
unattached_done s e ready = stage_is false s s (ap not e) record { follows = refl; settings = refl; ready = ready; numbers = λ are. are }

-- ---- links cleared, one after another

-- a position without a link stays
pub unattached_stays : (at : ℕ) (ps : List Position) → (position_at at ps).attach_chain ≡ pos 0 → (position_at at ps).attach_type ≡ 0 → ps ≡ set ps at (unattached_position (position_at at ps))
unattached_stays at ps e f =
    let p = position_at at ps in
    let same : unattached_position p ≡ p = ap (λ (z : ℤ). record p { attach_chain = z; attach_type = 0 }) (sym e) ∙ ap (λ (t : ℕ). record p { attach_type = t }) (sym f) in
    sym (ap (set ps at) same ∙ set-get_or ps at zero_position)

pub cleared_next : (old ps qs : List Position) (i : ℕ) → (ps ≡ map unattached_position (take i old) ++ drop i old) × (length ps ≡ length old) → i < length ps → qs ≡ set ps i (unattached_position (position_at i ps))
    → (qs ≡ map unattached_position (take (i + 1) old) ++ drop (i + 1) old) × (length qs ≡ length old)
cleared_next old ps qs i before lt e =
    let len = before.1 in
    let z = unattached_position (position_at i ps) in
    subst (λ (xs : List Position). (xs ≡ map unattached_position (take (i + 1) old) ++ drop (i + 1) old) × (length xs ≡ length old)) (sym e)
    (map_step unattached_position old ps i zero_position z (omega (arith, lt, len)) len before.0 refl, length-set ps i z ∙ len)

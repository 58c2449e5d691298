-- Calls of a cursor that either side has room for.
use Rattle.std.proofs.Common.{subst, sym, refl, ℕ, ◌≡◌, ◌≤◌, ◌<◌, ◌+◌, ◌-◌, ◌&&◌, true, nat_le, length, ap, ◌∙◌, arith, inl, inr, lt-ltb, le-ltb}
use Rattle.std.specs.Prelude.{not}
use Rattle.std.proofs.lemmas.Bool.{cases_lt, cond-true, cond-false}
use Rattle.std.proofs.lemmas.Bool.Decides.{nat_tests}
use Rattle.std.proofs.lemmas.List.{length-append}
use Rattle.buffer_core.specs.Sides.{Sides, all_glyphs, fits_joined, fits_next, has_output_room, has_room, with_output}
use Rattle.buffer_core.specs.Moving.{fits_moved, side_holds, has_room_back}
use Rattle.buffer_stages.specs.Ready.{IsReady}
use Rattle.buffer_stages.specs.Appending.{frame_of}
use Rattle.shape_normalize.specs.Composed.{HasRoom}

pub fits_next_ones : (n : ℕ) (s : Sides) → HasRoom s → n ≤ length s.ahead → fits_next n s ≡ true
fits_next_ones n s room some =
    let fits = room.fits in
    let sides = length-append s.behind s.ahead in
    let le : length s.behind + n ≤ s.max_len = omega (arith, fits, sides, some) in
    let t : has_output_room n s ≡ true = grind (arith, nat_tests, le) in
    cond-true _ _ _ room.is_open ∙ t

pub fits_next_glyph : (s : Sides) → HasRoom s → 0 < length s.ahead → fits_next 1 s ≡ true
fits_next_glyph s room some = fits_next_ones 1 s room (omega (arith, some))

holds : (at : ℕ) (s : Sides) → HasRoom s → at ≤ length (all_glyphs s) → side_holds at s ≡ true
holds at s room le =
    let fits = room.fits in
    let sides = length-append s.behind s.ahead in
    elim (cases_lt (length s.behind) at) [
      | inl forth ↦
          let few : at ≤ s.max_len = omega (arith, fits, le) in
          let t : nat_le at s.max_len ≡ true = grind (arith, nat_tests, few) in
          cond-true _ _ _ (lt-ltb (length s.behind) at forth) ∙ t
      | inr back ↦
          let few : length s.ahead + (length s.behind - at) ≤ s.max_len = omega (arith, fits, sides) in
          let t : has_room_back at s ≡ true = grind (arith, nat_tests, few) in
          cond-false _ _ _ (le-ltb (length s.behind) at back) ∙ t
    ]

pub fits_going : (at : ℕ) (s : Sides) → HasRoom s → at ≤ length (all_glyphs s) → fits_moved at s ≡ true
fits_going at s room le = cond-true _ _ _ room.is_open ∙ ap (λ t. not t && side_holds at s) room.unrefused ∙ holds at s room le

-- room stays while the frame does and no glyph is added
pub room_kept : (s t : Sides) → frame_of t ≡ frame_of s → length (all_glyphs t) ≤ length (all_glyphs s) → HasRoom s → HasRoom t
room_kept s t same few room =
    let limit = ap (λ (q : Sides). q.max_len) same in
    let fits = room.fits in
    record {
      is_open = ap (λ (q : Sides). q.is_open) same ∙ room.is_open;
      unrefused = ap (λ (q : Sides). q.has_refused) same ∙ room.unrefused;
      fits = omega (arith, limit, fits, few);
    }

-- the list that both sides make has room
pub fits_whole : (s : Sides) → HasRoom s → fits_joined s ≡ true
fits_whole s room =
    let fits = room.fits in
    let t : has_room 0 s ≡ true = grind (arith, nat_tests, fits) in
    ap (λ b. not b && has_room 0 s) room.unrefused ∙ t

-- an output that was opened over a list within the limit
pub opened_room : (s t : Sides) → IsReady s → t ≡ with_output s → length (all_glyphs s) ≤ s.max_len → HasRoom t
opened_room s t ready e le = subst HasRoom (sym e) (record { is_open = refl; unrefused = ready.unrefused; fits = le })

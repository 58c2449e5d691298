-- Buffers that stay ready.
use Rattle.std.proofs.Common.{zero, suc, ℕ, ◌≡◌, ◌+◌, true, List, [], ◌∷◌, ◌++◌, length, set, refl, sym, ap, subst, ◌∙◌, arith}
use Rattle.std.specs.Prelude.{ℤ, slice_set}
use Rattle.std.proofs.lemmas.List.{length-append, length-set}
use Rattle.buffer_glyphs.specs.declared.info.hb_glyph_info_t.{hb_glyph_info_t}
use Rattle.buffer_glyphs.specs.Items.{Item, Position, zero_position}
use Rattle.buffer_core.specs.Readings.{as_it_is}
use Rattle.buffer_core.specs.Sides.{Sides, state_of, with_added, with_output}
use Rattle.buffer_core.specs.Steps.{follows_same}
use Rattle.buffer_core.specs.Settings.{with_max_ops}
use Rattle.buffer_core.specs.Lending.{with_glyph_ahead, with_positions_refilled}
use Rattle.buffer_stages.specs.Ready.{IsDone, IsReady}
use Rattle.buffer_glyphs.specs.Rewriting.{Arrangement, eventless_arrangement}
use Rattle.buffer_stages.specs.Appending.{AppendsArrangement}
use Rattle.buffer_stages.specs.Rearranged.{Rearranges}
use Rattle.buffer_stages.specs.Lemmas.Written.{refilled_whole}
use Rattle.buffer_facts.proofs.Lists.{length_set}

pub unchanged : (start end : ℕ) (s : Sides) → IsReady s → Rearranges (λ (run : List Item). eventless_arrangement run) start end s s
unchanged start end s ready front run rest e len upto = record { items = e; happened = refl; frame = refl; ready = ready }

pub written_ready : (i : ℕ) (g : hb_glyph_info_t) (s t : Sides) → IsReady s → t ≡ with_glyph_ahead i g s → IsReady t
written_ready i g s t ready is =
    subst IsReady (sym is) (record {
      closed = ready.closed;
      front = ready.front;
      unread = ready.unread;
      placed = ready.placed ∙ length-append s.behind s.ahead ∙ ap (λ n. length s.behind + n) (sym (length_set s.ahead i g)) ∙ sym (length-append s.behind (slice_set s.ahead i g));
      unrefused = ready.unrefused;
    })

pub added_ready : (g : hb_glyph_info_t) (s t : Sides) → IsReady s → t ≡ with_added (g ∷ []) s → IsReady t
added_ready g s t ready is =
    subst IsReady (sym is) (record {
      closed = ready.closed;
      front = ready.front;
      unread = ready.unread;
      placed =
          let one = length-append s.positions (zero_position ∷ []) in
          let two = length-append s.behind (s.ahead ++ g ∷ []) in
          let three = length-append s.ahead (g ∷ []) in
          let four = length-append s.behind s.ahead in
          let placed = ready.placed in
          omega (arith, one, two, three, four, placed);
      unrefused = ready.unrefused;
    })

pub placed_ready : (i : ℕ) (p : Position) (ps : List Position) (s t : Sides) → IsReady s → ps ≡ s.positions → t ≡ with_positions_refilled (set ps i p) s → IsReady t
placed_ready i p ps s t ready is e =
    let P : List Position → Type 0 = λ qs. IsReady (with_positions_refilled (set qs i p) s) in
    let whole = refilled_whole (set s.positions i p) s.positions (length-set s.positions i p) in
    subst IsReady (sym e) (subst P (sym is) (record {
      closed = ready.closed;
      front = ready.front;
      unread = ready.unread;
      placed = ap (λ (qs : List Position). length qs) whole ∙ length-set s.positions i p ∙ ready.placed;
      unrefused = ready.unrefused;
    }))

pub budget_ready : (n : ℤ) (s t : Sides) → IsReady s → t ≡ with_max_ops n s → IsReady t
budget_ready n s t ready is =
    subst IsReady (sym is) (record {
      closed = ready.closed;
      front = ready.front;
      unread = ready.unread;
      placed = ready.placed;
      unrefused = ready.unrefused;
    })

-- a buffer that no call changes
pub unchanged_done : (s : Sides) → IsReady s → IsDone as_it_is s s
unchanged_done s ready = record { follows = follows_same (state_of s); settings = refl; ready = ready; numbers = λ h. h }

-- an output that was opened and appended to is open
pub output_open : (a : Arrangement) (xs : List Item) (s t u : Sides) → t ≡ with_output s → AppendsArrangement a xs t u → u.is_open ≡ true
output_open a xs s t u opened appended = ap (λ (q : Sides). q.is_open) appended.frame ∙ ap (λ (q : Sides). q.is_open) opened

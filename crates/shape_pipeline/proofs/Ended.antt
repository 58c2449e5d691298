-- A text ended.
use Rattle.std.proofs.Common.{◌≡◌, max, refl, sym, ap, subst, ◌∙◌}
use Rattle.std.specs.Prelude.{pos, []}
use Rattle.std.proofs.lemmas.List.{length-map}
use Rattle.buffer_common.specs.declared.direction.Direction.{Direction}
use Rattle.buffer_glyphs.specs.Items.{item_of}
use Rattle.buffer_core.specs.Readings.{always}
use Rattle.buffer_core.specs.Steps.{follows_events}
use Rattle.buffer_core.specs.Sides.{Sides, all_glyphs, state_of, view_of}
use Rattle.buffer_core.specs.Settings.{after_leave}
use Rattle.buffer_core.specs.Segment.{with_segment}
use Rattle.buffer_stages.specs.Ready.{IsDone, IsReady}
use Rattle.shape_pipeline.specs.Limits.{final_view}
use Rattle.shape_pipeline.specs.Results.{IsLeft}

pub left_done : (d : Direction) (s turned new : Sides) → IsReady s → turned ≡ with_segment d s.script s → new ≡ after_leave turned → IsDone (always (final_view d)) s new
left_done d s turned new ready t e =
    let P : Sides → Type 0 = λ n. IsDone (always (final_view d)) s n in
    let there = after_leave (with_segment d s.script s) in
    let same = ap (λ n. record (view_of s) { max_len = max 0x3FFF_FFFF n; max_ops = pos 0x1FFF_FFFF; lig_id = 0; direction = d }) (sym (length-map (all_glyphs s) item_of)) in
    subst P (sym (e ∙ ap after_leave t)) (record {
      follows = follows_events [] (final_view d (view_of s)).view (state_of s) (state_of there) same refl refl refl;
      settings = refl;
      ready = record { closed = ready.closed; front = ready.front; unread = ready.unread; placed = ready.placed; unrefused = ready.unrefused };
      numbers = λ are. are;
    })

pub left_so : (d : Direction) (s turned new : Sides) → turned ≡ with_segment d s.script s → new ≡ after_leave turned → IsLeft d new
left_so d s turned new t e =
    let there = after_leave (with_segment d s.script s) in
    subst (IsLeft d) (sym (e ∙ ap after_leave t)) (record { direction = refl; limits = refl })

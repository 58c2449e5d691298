-- A part of a buffer in stable order by the places of its glyphs.
use Rattle.std.proofs.Common.{ℕ, ◌≡◌, ◌+◌, List, [], ◌∷◌, ◌++◌, length, map, take, drop, sym, ap, ◌∙◌, arith}
use Rattle.std.specs.Prelude.{slice_range}
use Rattle.buffer_glyphs.specs.declared.info.hb_glyph_info_t.{hb_glyph_info_t}
use Rattle.buffer_rows.specs.KeyOrder.{key_order}
use Rattle.buffer_lists.specs.Events.{order_of}
use Rattle.buffer_lists.specs.Sorting.{range_sorted}
use Rattle.buffer_glyphs.specs.Items.{Item}
use Rattle.buffer_glyphs.specs.Events.{Sort}
use Rattle.buffer_core.specs.Sides.{Sides, all_glyphs, items_of, origins_by, origins_of, settings_of, view_of}
use Rattle.buffer_core.specs.Sorting.{with_range_sorted}
use Rattle.buffer_core.proofs.Told.{stage_flags_ignore_glyph_flags}
use Rattle.buffer_stages.specs.Ready.{IsReady}
use Rattle.buffer_stages.specs.Ordering.{auxiliary_order}
use Rattle.buffer_stages.specs.SyllableBuffers.{IsRewritten}

pub sort_rewrites : (from to : ℕ) (a b : Sides) → IsReady a → b ≡ with_range_sorted from to (λ (g : hb_glyph_info_t). g.auxiliary) a → length (all_glyphs b) ≡ length (all_glyphs a)
    → items_of b ≡ take from (items_of a) ++ key_order (λ (x : Item). x.auxiliary) (slice_range (items_of a) from to) ++ drop to (items_of a)
    → origins_of b ≡ origins_by (Sort from (order_of (map (λ (x : Item). x.auxiliary) (slice_range (items_of a) from to))) ∷ []) a
    → IsRewritten (auxiliary_order (slice_range (items_of a) from to)) from to a b
sort_rewrites from to a b ready e count items from_where =
    let t = range_sorted a.level from to (λ (g : hb_glyph_info_t). g.auxiliary) (all_glyphs a) in
    let at : from + 0 ≡ from = omega arith in
    let seen : view_of b ≡ record (view_of a) { items = items_of b } = ap (λ (s : Sides). record (view_of s) { items = items_of b }) e ∙ ap (λ n. record (view_of a) { items = items_of b; scratch_flags = n }) (stage_flags_ignore_glyph_flags t.is_marked a.scratch_flags) in
    record {
      view = seen ∙ ap (λ xs. record (view_of a) { items = xs }) items;
      origins = from_where ∙ ap (λ n. origins_by (Sort n (order_of (map (λ (x : Item). x.auxiliary) (slice_range (items_of a) from to))) ∷ []) a) (sym at);
      settings = ap settings_of e;
      ready = record {
        closed = ap (λ (s : Sides). s.is_open) e ∙ ready.closed;
        front = ap (λ (s : Sides). s.behind) e ∙ ap (λ (ys : List hb_glyph_info_t). take (length ys) t.glyphs) ready.front;
        unread = ap (λ (s : Sides). s.read) e ∙ ready.unread;
        placed = ap (λ (s : Sides). length s.positions) e ∙ ready.placed ∙ sym count;
        unrefused = ap (λ (s : Sides). s.has_refused) e ∙ ready.unrefused;
      };
    }

-- A range of a ready buffer that moved.
use Rattle.std.proofs.Common.{ℕ, ◌≡◌, ◌≤◌, ◌+◌, List, [], ◌∷◌, length, arith, refl, ap, sym, ◌∙◌}
use Rattle.std.proofs.lemmas.List.{length-map}
use Rattle.buffer_glyphs.specs.declared.info.hb_glyph_info_t.{hb_glyph_info_t}
use Rattle.buffer_glyphs.specs.Items.{Item, item_of, strip}
use Rattle.buffer_glyphs.specs.Origins.{with_range_arranged, origin_of, origins, manner, origins_merged_as}
use Rattle.buffer_glyphs.specs.Levels.{InList}
use Rattle.buffer_glyphs.specs.Events.{Merge, Move}
use Rattle.buffer_core.specs.Readings.{View, always}
use Rattle.buffer_core.specs.Sides.{Sides, all_glyphs, items_of, origins_of, view_of}
use Rattle.buffer_core.specs.Lending.{with_refilled}
use Rattle.buffer_stages.specs.Stages.{Happens, IsFollowed}
use Rattle.buffer_stages.specs.Lemmas.Written.{happened_followed, written_all, written_ready}
use Rattle.buffer_stages.specs.Moves.{with_range_moved, order_of_move, with_move}
use Rattle.buffer_stages.specs.Lemmas.Moves.{order_long, arranged_moved, moved_seen, moved_length}

-- glyphs that merged and then moved
pub move_followed : (start n k end : ℕ) (s merged : Sides) (gs : List hb_glyph_info_t) → start + (n + k) ≡ end → end ≤ length (all_glyphs s) → Happens (Merge InList start end ∷ []) s merged
    → gs ≡ with_range_moved start n k (all_glyphs merged) → IsFollowed (always (with_move start n k)) s (with_refilled gs merged)
move_followed start n k end s merged gs at le h e =
    let same : items_of merged ≡ items_of s = ap (λ (v : View). v.items) h.view in
    let many : length (all_glyphs merged) ≡ length (all_glyphs s) = sym (length-map (all_glyphs merged) item_of) ∙ ap (λ (xs : List Item). length xs) same ∙ length-map (all_glyphs s) item_of in
    let within : start + (n + k) ≤ length (all_glyphs merged) = omega (arith, at, le, many) in
    let order = order_of_move n k in
    let arrangement : gs ≡ with_range_arranged start order (all_glyphs merged) = e ∙ sym (arranged_moved start n k (all_glyphs merged) within) in
    let long : length gs ≡ length (all_glyphs merged) = ap (λ (ys : List hb_glyph_info_t). length ys) e ∙ moved_length start n k (all_glyphs merged) within in
    let items : strip gs ≡ with_range_moved start n k (items_of s) = ap strip e ∙ moved_seen item_of start n k (all_glyphs merged) ∙ ap (with_range_moved start n k) same in
    let count : length (origins_of merged) ≡ length (all_glyphs merged) = length-map (all_glyphs merged) origin_of in
    let from : origins gs ≡ with_range_arranged start order (origins_of merged) =
    ap origins e ∙ moved_seen origin_of start n k (all_glyphs merged) ∙ sym (arranged_moved start n k (origins_of merged) (omega (arith, count, within))) in
    let after : origins_of merged ≡ origins_merged_as (manner InList s.level) start (start + length order) (origins_of s) =
    h.origins ∙ ap (λ m. origins_merged_as (manner InList s.level) start m (origins_of s)) (sym at ∙ ap (λ m. start + m) (sym (order_long n k))) in
    let v : View = record (view_of s) { items = with_range_moved start n k (items_of s) } in
    happened_followed (Move InList start order ∷ []) v (always (with_move start n k)) s (with_refilled gs merged)
    (ap (λ (ys : List hb_glyph_info_t). record (view_of merged) { items = strip ys }) (written_all gs merged long) ∙ ap (λ xs. record (view_of merged) { items = xs }) items ∙ ap (λ (w : View). record w { items = with_range_moved start n k (items_of s) }) h.view)
    (ap origins (written_all gs merged long) ∙ from ∙ ap (with_range_arranged start order) after)
    h.settings
    (written_ready gs merged long h.ready)
    refl

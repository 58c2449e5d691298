-- The cursor at another index, and a range reversed.
use Rattle.std.specs.Global.{Vec}
use Rattle.std.proofs.Common.{ℕ, ◌≡◌, ◌≤◌, ◌+◌, ◌-◌, false, length, refl, ap, sym, arith, ◌∙◌, [], ◌∷◌}
use Rattle.std.proofs.lemmas.List.{take-append-drop}
use Rattle.std.proofs.Math.Seq.{take-append-add, drop-append-add}
use Rattle.buffer_glyphs.specs.declared.info.hb_glyph_info_t.{hb_glyph_info_t}
use Rattle.buffer_glyphs.specs.declared.position.GlyphPosition.{GlyphPosition}
use Rattle.buffer_glyphs.specs.Items.{item_of, strip}
use Rattle.buffer_core.specs.declared.buffer.hb_buffer_t.TheInside.{Inside}
use Rattle.buffer_lists.specs.declared.order.ClusterOrder.{ClusterOrder}
use Rattle.buffer_core.specs.Inside.{sides_of}
use Rattle.buffer_core.specs.Moving.{after_move_to, range_reversed, with_range_reversed, indices_reversed}
use Rattle.buffer_core.specs.Sides.{Sides, all_glyphs, items_of, after_next_glyphs, origins_of, origins_by}
use Rattle.buffer_glyphs.specs.Origins.{origins}
use Rattle.buffer_glyphs.specs.Events.{Arrange}
use Rattle.buffer_lists.proofs.Lemmas.ReversedEvents.{range_origins as reversed_range, range_seen}

-- no glyph is deleted where the cursor moves
pub moved_to_all : (i : ℕ) (s : Sides) → all_glyphs (after_move_to i s) ≡ all_glyphs s
moved_to_all i s = take-append-drop i (all_glyphs s)

-- a range of the list reversed
pub range_view : (b : Inside) (info : Vec hb_glyph_info_t) (positions : Vec GlyphPosition) (order : ClusterOrder) (start end : ℕ) → b.have_output ≡ false → info.items ≡ range_reversed start end b.info.items → positions.items ≡ range_reversed start end b.pos.items
    → sides_of (record b { info = info; pos = positions; order = order }) ≡ with_range_reversed start end (sides_of b)
range_view b info positions order start end h i p = rw (h, i, p, take-append-drop b.idx b.info.items) refl

all_in_range : (start end : ℕ) (s : Sides) → all_glyphs (with_range_reversed start end s) ≡ range_reversed start end (all_glyphs s)
all_in_range start end s = take-append-drop s.read (range_reversed start end (all_glyphs s))

pub range_items : (start end : ℕ) (s : Sides) → items_of (with_range_reversed start end s) ≡ range_reversed start end (items_of s)
range_items start end s = ap strip (all_in_range start end s) ∙ range_seen item_of start end (all_glyphs s)

pub range_origins : (start end : ℕ) (s : Sides) → start ≤ end → end ≤ length (all_glyphs s) → origins_of (with_range_reversed start end s) ≡ origins_by (Arrange start (indices_reversed (end - start)) ∷ []) s
range_origins start end s ordered within =
    let there : start + (end - start) ≡ end = omega arith in
    ap origins (all_in_range start end s) ∙ ap (λ k. origins (range_reversed start k (all_glyphs s))) (sym there) ∙ reversed_range start (end - start) (all_glyphs s) (omega (arith, there, within))

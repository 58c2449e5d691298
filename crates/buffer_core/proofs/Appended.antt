-- What glyphs at the end of both vectors do to the sides.
use Rattle.std.specs.Global.{Vec}
use Rattle.std.proofs.Common.{ℕ, ◌≡◌, ◌≤◌, ◌+◌, ◌++◌, false, None, List, length, refl, arith, length-append}
use Rattle.std.proofs.lemmas.List.{take-append-le, drop-append-le, length-replicate, map-append}
use Rattle.buffer_glyphs.specs.declared.info.hb_glyph_info_t.{hb_glyph_info_t}
use Rattle.buffer_glyphs.specs.declared.position.GlyphPosition.{GlyphPosition}
use Rattle.buffer_core.specs.declared.buffer.hb_buffer_t.TheInside.{Inside}
use Rattle.buffer_lists.specs.declared.order.ClusterOrder.{ClusterOrder}
use Rattle.buffer_glyphs.specs.Items.{clusters}
use Rattle.buffer_lists.specs.Known.{HasOrder}
use Rattle.buffer_core.specs.Inside.{sides_of, IsSound}
use Rattle.buffer_core.proofs.Cleared.{zero_added}
use Rattle.buffer_core.specs.Sides.{with_added}
use Rattle.buffer_core.specs.Appended.{IsAppended}

pub appended_view : (b : Inside) (info : Vec hb_glyph_info_t) (positions : Vec GlyphPosition) (order : ClusterOrder) (gs : List hb_glyph_info_t) → b.have_output ≡ false → IsSound b
    → IsAppended gs b.info.items b.pos.items info.items positions.items
    → sides_of (record b { info = info; pos = positions; order = order }) ≡ with_added gs (sides_of b)
appended_view b info positions order gs h s a =
    let le : b.idx ≤ length b.info.items = s.cursor in
    rw (h, a.glyphs, a.positions, take-append-le, drop-append-le) refl

pub appended_sound : (b : Inside) (info : Vec hb_glyph_info_t) (positions : Vec GlyphPosition) (order : ClusterOrder) (gs : List hb_glyph_info_t) → b.have_output ≡ false → IsSound b
    → order.lent ≡ None → HasOrder order.known (clusters b.info.items ++ clusters gs)
    → length b.info.items + length gs ≤ b.max_len
    → IsAppended gs b.info.items b.pos.items info.items positions.items
    → IsSound (record b { info = info; pos = positions; order = order })
appended_sound b info positions order gs h s back o le a =
    let even : length b.pos.items ≡ length b.info.items = rw h at s.placed in
    let grown : length info.items ≡ length b.info.items + length gs = rw a.glyphs (length-append b.info.items gs) in
    let placed : length positions.items ≡ length b.pos.items + length gs = rw (a.positions, length-append, length-replicate) refl in
    let apart : b.is_apart ≡ false = rw h at s.together in
    let cluster_of : hb_glyph_info_t → ℕ = λ g. g.cluster in
    record {
      cursor = omega (arith, s.cursor, grown);
      opened = s.opened;
      unopened = s.unopened;
      input_within = omega (arith, grown, le);
      output_within = rw h tt;
      out_len = rw h tt;
      together = s.together;
      placed = rw h (omega (arith, even, grown, placed));
      counted = rw apart (omega (arith, even, grown, placed));
      cleared = zero_added b.is_placed b.pos.items positions.items (length gs) a.positions s.cleared;
      ordered = rw (h, a.glyphs, back, map-append cluster_of b.info.items gs) o;
    }

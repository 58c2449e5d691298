-- Glyphs that a test picks were taken out of both vectors.
use Rattle.std.specs.Global.{Vec}
use Rattle.std.proofs.Common.{ℕ, ◌≡◌, Bool, false, min, length, refl}
use Rattle.std.proofs.lemmas.List.{take-append-drop}
use Rattle.buffer_glyphs.specs.declared.info.hb_glyph_info_t.{hb_glyph_info_t}
use Rattle.buffer_glyphs.specs.declared.position.GlyphPosition.{GlyphPosition}
use Rattle.buffer_lists.specs.DeletionWalk.{whole_walk}
use Rattle.buffer_core.specs.declared.buffer.hb_buffer_t.TheInside.{Inside}
use Rattle.buffer_lists.specs.declared.order.ClusterOrder.{ClusterOrder}
use Rattle.buffer_core.specs.Inside.{sides_of}
use Rattle.buffer_core.specs.Grouping.{with_picked_deleted}
use Rattle.buffer_core.specs.Merging.{with_has_glyph_flags}
use Rattle.buffer_core.specs.Sides.{requests_breaks}

pub picked_view : (b : Inside) (info : Vec hb_glyph_info_t) (positions : Vec GlyphPosition) (order : ClusterOrder) (goes : hb_glyph_info_t → Bool) (at flags : ℕ) → b.have_output ≡ false
    → info.items ≡ (whole_walk (requests_breaks (sides_of b)) b.cluster_level goes b.info.items b.pos.items).kept → positions.items ≡ (whole_walk (requests_breaks (sides_of b)) b.cluster_level goes b.info.items b.pos.items).kept_positions
    → at ≡ min b.idx (length info.items) → flags ≡ with_has_glyph_flags (whole_walk (requests_breaks (sides_of b)) b.cluster_level goes b.info.items b.pos.items).is_marked b.scratch_flags
    → sides_of (record b { info = info; pos = positions; idx = at; scratch_flags = flags; order = order }) ≡ with_picked_deleted goes (sides_of b)
picked_view b info positions order goes at flags h i p n f = rw (h, take-append-drop b.idx b.info.items, n, i, p, f) refl

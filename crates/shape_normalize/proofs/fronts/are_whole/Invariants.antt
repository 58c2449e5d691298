use Rattle.std.proofs.Common.{◌≡◌, true, take}
use Rattle.std.specs.List.{list_all}
use Rattle.buffer_glyphs.specs.declared.info.hb_glyph_info_t.{hb_glyph_info_t}
use Rattle.buffer_glyphs.specs.Items.{item_of}
use Rattle.shape_normalize.specs.Fronts.{is_whole}
use Rattle.shape_normalize.specs.KnownGlyphs.{HaveGlyphs}
use Rattle.shape_normalize.specs.Undecomposed.{AreUndecomposed}
use Rattle.shape_normalize.proofs.fronts.are_whole.Given as goal

-- the glyphs before an index stay whole, and what is remembered is true
abbrev pub invariant-loop-glyph : goal.invariant-loop-glyph
invariant-loop-glyph g l = record {
  whole : list_all (λ (h : hb_glyph_info_t). is_whole (g.N.Normalizing.normalizer l.by) l.reach (item_of h)) (take l.glyph-index l.glyphs) ≡ true;
  rows : HaveGlyphs (g.N.Normalizing.normalizer l.by) l.rows;
  known : AreUndecomposed (g.N.Normalizing.normalizer l.by) l.known;
}

use Rattle.std.proofs.Common.{◌≡◌, ◌==◌, take}
use Rattle.std.specs.List.{list_any}
use Rattle.buffer_glyphs.specs.declared.info.hb_glyph_info_t.{hb_glyph_info_t}
use Rattle.shape_normalize.proofs.joiners.has_joiner.Given as goal

-- one of the glyphs before an index passes the test, or none
abbrev pub invariant-loop-glyph : goal.invariant-loop-glyph
invariant-loop-glyph l = l.any ≡ list_any (λ (g : hb_glyph_info_t). g.glyph_id == 0x034F) (take l.glyph-index l.glyphs)

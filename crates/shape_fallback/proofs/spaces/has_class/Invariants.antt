use Rattle.std.proofs.Common.{◌≡◌, ◌==◌, not, take}
use Rattle.std.specs.List.{list_any}
use Rattle.buffer_glyphs.specs.declared.info.hb_glyph_info_t.{hb_glyph_info_t}
use Rattle.shape_fallback.proofs.spaces.has_class.Given as goal

-- one of the glyphs before an index passes the test, or none
abbrev pub invariant-loop-glyph : goal.invariant-loop-glyph
invariant-loop-glyph l = l.any ≡ list_any (λ (g : hb_glyph_info_t). not (g.modified_combining_class == 0)) (take l.glyph-index l.glyphs)

use Rattle.std.proofs.Common.{◌≡◌, take}
use Rattle.std.specs.List.{list_any}
use Rattle.buffer_glyphs.specs.declared.info.hb_glyph_info_t.{hb_glyph_info_t}
use Rattle.buffer_glyphs.specs.Items.{item_of}
use Rattle.buffer_properties.specs.Characters.{is_mark}
use Rattle.shape_normalize.proofs.normalize.has_mark.Given as goal

-- one of the glyphs before an index passes the test, or none
abbrev pub invariant-loop-glyph : goal.invariant-loop-glyph
invariant-loop-glyph l = l.any ≡ list_any (λ (g : hb_glyph_info_t). is_mark (item_of g)) (take l.glyph-index l.glyphs)

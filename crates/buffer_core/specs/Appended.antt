-- The buffer's vectors after glyphs are appended.
use Rattle.std.specs.Prelude.{◌≡◌, List, ◌++◌, length}
use Rattle.buffer_glyphs.specs.declared.info.hb_glyph_info_t.{hb_glyph_info_t}
use Rattle.buffer_glyphs.specs.Items.{Position}
use Rattle.buffer_core.specs.Sides.{zero_positions}

-- the vectors after glyphs `gs` are appended, each with a zero position
pub record IsAppended (gs old : List hb_glyph_info_t) (old_places : List Position) (new : List hb_glyph_info_t) (new_places : List Position) : Type 0 where
  pub glyphs : new ≡ old ++ gs
  pub positions : new_places ≡ old_places ++ zero_positions (length gs)

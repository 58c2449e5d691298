-- Stages over a whole buffer that rustybuzz has with its layout calls (rustybuzz: hb/ot_layout.rs).
use Rattle.std.specs.Prelude.{◌-◌, Bool, true, false, bit_and}
use Rattle.buffer_glyphs.specs.declared.level.BufferClusterLevel.{BufferClusterLevel}
use Rattle.buffer_glyphs.specs.declared.level.BufferClusterLevel.TheVariants.{MonotoneGraphemes, MonotoneCharacters, Characters, Graphemes}
use Rattle.buffer_glyphs.specs.Items.{Item}
use Rattle.buffer_core.specs.Readings.{Stage, always}
use Rattle.buffer_stages.specs.Stages.{with_items_mapped}

-- an item without the substituted bit
abbrev pub item_not_substituted : Item → Item
item_not_substituted x = record x { glyph_props = x.glyph_props - bit_and x.glyph_props 16 }

-- the stage that clears all substituted bits (HarfBuzz: _hb_clear_substitution_flags)
abbrev pub substitutions_cleared : Stage
substitutions_cleared = always (with_items_mapped item_not_substituted)

-- at level MonotoneCharacters graphemes are merged before the reversal, so that the order of clusters is kept
abbrev pub merges_graphemes : BufferClusterLevel → Bool
merges_graphemes MonotoneGraphemes = false
merges_graphemes MonotoneCharacters = true
merges_graphemes Characters = false
merges_graphemes Graphemes = false

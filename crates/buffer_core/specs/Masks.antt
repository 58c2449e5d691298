-- Masks of a buffer's glyphs.
use Rattle.std.specs.Prelude.{ℕ, if◌then◌else◌, map, bit_and}
pub use Rattle.buffer_lists.specs.Masks.{bits_set, glyph_masked, glyph_set, is_within, item_masked, items_set}
use Rattle.buffer_glyphs.specs.Origins.{Origin}
use Rattle.buffer_core.specs.Sides.{Sides, all_glyphs}
use Rattle.buffer_core.specs.Merging.{with_glyphs}

-- all glyphs with one mask (`reset_masks`)
abbrev pub with_masks : ℕ → Sides → Sides
with_masks m s = with_glyphs (map (glyph_masked m) (all_glyphs s)) s

-- an origin with the glyph flags of a mask
abbrev pub origin_masked : ℕ → Origin → Origin
origin_masked m o = record o { flags = bit_and m 7 }

-- an origin whose flags under a mask become those of a value, where its cluster is in a range
abbrev pub origin_set : ℕ → ℕ → ℕ → ℕ → Origin → Origin
origin_set value under start end o = if is_within start end o.cluster then record o { flags = bit_and (bits_set value under o.flags) 7 } else o

-- bits set on the glyphs of a range of clusters (`set_masks`)
abbrev pub with_set_masks : ℕ → ℕ → ℕ → ℕ → Sides → Sides
with_set_masks value under start end s = with_glyphs (map (glyph_set value under start end) (all_glyphs s)) s

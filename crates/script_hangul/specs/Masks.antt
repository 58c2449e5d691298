-- The masks of the jamo features ljmo, vjmo and tjmo.
use Rattle.std.specs.Prelude.{ℕ, ◌≡◌, ◌==◌, if◌then◌else◌}
use Rattle.std.specs.Int.RustNames.{bit_and, bit_or}
use Rattle.buffer_glyphs.specs.declared.info.TheConstants.{DEFINED}
use Rattle.buffer_glyphs.specs.Items.{Item, without_flags}
use Rattle.script_hangul.specs.declared.masks.JamoMasks.{JamoMasks}

-- the mask of a jamo feature, 0 for none
abbrev pub mask_of : JamoMasks → ℕ → ℕ
mask_of masks n = if n == 1 then masks.ljmo else if n == 2 then masks.vjmo else if n == 3 then masks.tjmo else 0

-- an item with the mask of its jamo feature
abbrev pub with_letter_mask : JamoMasks → Item → Item
with_letter_mask masks x = record x { mask = without_flags (bit_or x.mask (mask_of masks x.auxiliary)) }

-- no mask has a glyph flag's bit
pub record AreFlagless (masks : JamoMasks) : Type 0 where
  pub ljmo : bit_and masks.ljmo DEFINED ≡ 0
  pub vjmo : bit_and masks.vjmo DEFINED ≡ 0
  pub tjmo : bit_and masks.tjmo DEFINED ≡ 0

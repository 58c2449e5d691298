-- The masks of Hangul jamo in a compiled map.
use Rattle.std.specs.Prelude.{codes}
use Rattle.layout_map.specs.Compiled.{OtMapValue}
use Rattle.layout_map.specs.Masks.{mask_at_one}
use Rattle.script_hangul.specs.declared.masks.JamoMasks.{JamoMasks}

-- the masks of ljmo, vjmo and tjmo
abbrev pub jamo_masks : OtMapValue → JamoMasks
jamo_masks m = record { ljmo = mask_at_one (codes "ljmo") m; vjmo = mask_at_one (codes "vjmo") m; tjmo = mask_at_one (codes "tjmo") m }

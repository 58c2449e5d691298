-- The masks of the Khmer shaper in a compiled map.
use Rattle.std.specs.Prelude.{codes}
use Rattle.std.specs.Int.RustNames.{bit_or}
use Rattle.layout_map.specs.Compiled.{OtMapValue}
use Rattle.layout_map.specs.Masks.{mask_at_one}
use Rattle.script_khmer.specs.declared.khmer.KhmerMasks.{KhmerMasks}

-- the masks of the Khmer shaper
abbrev pub khmer_masks : OtMapValue → KhmerMasks
khmer_masks m = record {
  pref = mask_at_one (codes "pref") m;
  post_base = bit_or (bit_or (mask_at_one (codes "blwf") m) (mask_at_one (codes "abvf") m)) (mask_at_one (codes "pstf") m);
  cfar = mask_at_one (codes "cfar") m;
}

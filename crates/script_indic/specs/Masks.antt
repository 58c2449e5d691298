-- The masks that the Indic shaper reads of a compiled map (HarfBuzz: indic_shape_plan_t::mask_array).
use Rattle.std.specs.Prelude.{ℕ, ◌≡◌, List, codes}
use Rattle.std.specs.Int.RustNames.{bit_and, bit_or}
use Rattle.buffer_glyphs.specs.declared.info.TheConstants.{DEFINED}
use Rattle.layout_map.specs.Compiled.{OtMapValue}
use Rattle.layout_map.specs.Masks.{mask_at_one}
use Rattle.script_indic_reordering.specs.declared.script.IndicMasks.{IndicMasks}
use Rattle.script_indic.specs.declared.config.BlwfMode.{BlwfMode}
use Rattle.script_indic.specs.declared.config.BlwfMode.TheVariants.{PostOnly, PreAndPost}

-- the mask of items before the base: half, and blwf where it forms consonants before the base too
abbrev pub before_base_mask : ℕ → ℕ → BlwfMode → ℕ
before_base_mask half blwf PreAndPost = bit_or half blwf
before_base_mask half blwf PostOnly = half

-- the masks of the Indic shaper
abbrev pub indic_masks : BlwfMode → OtMapValue → IndicMasks
indic_masks blwf_mode m = record {
  rphf = mask_at_one (codes "rphf") m;
  before_base = before_base_mask (mask_at_one (codes "half") m) (mask_at_one (codes "blwf") m) blwf_mode;
  after_base = bit_or (bit_or (mask_at_one (codes "blwf") m) (mask_at_one (codes "abvf") m)) (mask_at_one (codes "pstf") m);
  half = mask_at_one (codes "half") m;
  pref = mask_at_one (codes "pref") m;
  init = mask_at_one (codes "init") m;
}

-- masks without a glyph flag
pub record AreFlagless (m : IndicMasks) : Type 0 where
  pub rphf : bit_and m.rphf DEFINED ≡ 0
  pub before_base : bit_and m.before_base DEFINED ≡ 0
  pub after_base : bit_and m.after_base DEFINED ≡ 0
  pub half : bit_and m.half DEFINED ≡ 0
  pub pref : bit_and m.pref DEFINED ≡ 0
  pub init : bit_and m.init DEFINED ≡ 0

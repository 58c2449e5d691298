-- A shaper's choices for all texts.
use Rattle.std.specs.Prelude.{ℕ, Bool, Option}
use Rattle.buffer_common.specs.declared.tag.Tag.{Tag}
use Rattle.buffer_common.specs.declared.script.Script.{Script}
use Rattle.buffer_common.specs.declared.direction.Direction.{Direction}
use Rattle.buffer_properties.specs.declared.normal_mode.NormalizationMode.{NormalizationMode}
use Rattle.layout_map.specs.Compiled.{OtMapValue}
use Rattle.script_plan.specs.Requests.{Asking}

-- a shaper's choices for all texts
pub record ShaperTraits : Type 0 where
  -- the preferred form of characters: composed, decomposed, or automatic
  pub normalization : NormalizationMode
  -- the GPOS script that the shaper is made for; with another one GPOS is not applied
  pub gpos_tag : Option Tag
  -- when the advances of marks are zeroed
  pub zero_width_marks : ℕ
  -- marks are positioned by glyph extents where the font has no rules for them
  pub fallback_position : Bool

-- a family of shapers, each with its own data of a plan
pub record ShaperKind (S D : Type 0) : Type 0 where
  -- the shaper of a text, by its script, its direction and the chosen GSUB script
  pub shaper_of : Option Script → Direction → Option Tag → S
  pub traits : S → ShaperTraits
  pub asking : S → Asking
  -- a shaper's own data for texts of a script, by a compiled map
  pub data_of : S → OtMapValue → Option Script → D

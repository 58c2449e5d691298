-- What the scripts' shapers make of a compiled map.
use Rattle.std.specs.Prelude.{List, ℕ, Option, codes}
use Rattle.buffer_common.specs.declared.script.Script.{Script}
use Rattle.buffer_common.specs.Tag.{tag_of}
use Rattle.layout_map.specs.Compiled.{OtMapValue}
use Rattle.layout_map.specs.Masks.{has_mask, joining_masks, mask_at_one}
use Rattle.script_categories.specs.declared.shaper.hb_ot_script_shaper_t.{hb_ot_script_shaper_t}
use Rattle.script_categories.specs.declared.shaper.hb_ot_script_shaper_t.TheVariants.{ARABIC_SHAPER, HANGUL_SHAPER, INDIC_SHAPER, KHMER_SHAPER, UNIVERSAL_SHAPER}
use Rattle.script_hangul.specs.MapMasks.{jamo_masks}
use Rattle.script_indic.specs.Config.{indic_config}
use Rattle.script_indic.specs.WouldSubstitute.{substitute_feature}
use Rattle.script_indic.specs.declared.would_substitute.IndicWouldSubstituteFeature.{IndicWouldSubstituteFeature}
use Rattle.script_khmer.specs.Masks.{khmer_masks}
use Rattle.script_dispatch.specs.declared.plan_data.IndicFeatures.{IndicFeatures}
use Rattle.script_dispatch.specs.declared.plan_data.hb_script_plan_data_t.{hb_script_plan_data_t}
use Rattle.script_dispatch.specs.declared.plan_data.hb_script_plan_data_t.TheVariants as own

-- the features that glyphs of an Indic syllable are tested for (HarfBuzz: indic_shape_plan_t)
abbrev pub indic_features : OtMapValue → Option Script → IndicFeatures
indic_features m s =
    let feature : List ℕ → IndicWouldSubstituteFeature = λ name. substitute_feature (tag_of name) (indic_config s).zero_context m in
    record {
      rphf = feature (codes "rphf");
      pref = feature (codes "pref");
      blwf = feature (codes "blwf");
      pstf = feature (codes "pstf");
      vatu = feature (codes "vatu");
    }

-- the data that a script's shaper has of a map (HarfBuzz: data_create)
abbrev pub script_data : hb_ot_script_shaper_t → OtMapValue → Option Script → hb_script_plan_data_t
script_data ARABIC_SHAPER m s = own.Arabic (record { mask_array = joining_masks m; has_stch = has_mask (codes "stch") m })
script_data HANGUL_SHAPER m s = own.Hangul (jamo_masks m)
script_data INDIC_SHAPER m s = own.Indic (indic_features m s)
script_data KHMER_SHAPER m s = own.Khmer (khmer_masks m)
script_data UNIVERSAL_SHAPER m s = own.Universal (mask_at_one (codes "rphf") m)
script_data _ m s = own.None

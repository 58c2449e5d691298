-- The shapers and their choices for all texts.
use Rattle.std.specs.Prelude.{ℕ, Bool, true, false, List, [], Option, Some, None, codes}
use Rattle.buffer_common.specs.declared.script.Script.{Script}
use Rattle.buffer_common.specs.Tag.{tag_of}
use Rattle.buffer_properties.specs.declared.normal_mode.NormalizationMode.TheVariants as mode
use Rattle.script_plan.specs.Traits.{ShaperTraits}
use Rattle.script_categories.specs.declared.shaper.hb_ot_script_shaper_t.{hb_ot_script_shaper_t}
use Rattle.script_categories.specs.declared.shaper.hb_ot_script_shaper_t.TheVariants.{ARABIC_SHAPER, HANGUL_SHAPER, HEBREW_SHAPER, INDIC_SHAPER, KHMER_SHAPER, MYANMAR_SHAPER, MYANMAR_ZAWGYI_SHAPER, THAI_SHAPER, UNIVERSAL_SHAPER}
use Rattle.layout_map.specs.declared.request.MapRequest.{MapRequest}
use Rattle.script_arabic.specs.Requests.{arabic_features, is_arabic}
use Rattle.script_hangul.specs.Requests.{hangul_features, hangul_overrides}
use Rattle.script_indic.specs.Requests.{indic_features, indic_overrides}
use Rattle.script_khmer.specs.Requests.{khmer_features, khmer_overrides}
use Rattle.script_myanmar.specs.Requests.{myanmar_features}
use Rattle.script_universal.specs.Requests.{universal_features}
use Rattle.script_dispatch.specs.declared.any_shaper.hb_ot_any_shaper_t.{hb_ot_any_shaper_t}
use Rattle.script_dispatch.specs.declared.any_shaper.hb_ot_any_shaper_t.TheVariants as any
use Rattle.script_plan.specs.declared.planned.TheConstants.{HB_OT_SHAPE_ZERO_WIDTH_MARKS_NONE, HB_OT_SHAPE_ZERO_WIDTH_MARKS_BY_GDEF_EARLY, HB_OT_SHAPE_ZERO_WIDTH_MARKS_BY_GDEF_LATE}

-- the choices of most shapers
abbrev pub simple_traits : ShaperTraits
simple_traits = record { normalization = mode.Auto; gpos_tag = None; zero_width_marks = HB_OT_SHAPE_ZERO_WIDTH_MARKS_BY_GDEF_LATE; fallback_position = true }

-- the choices of shapers that reorder syllables
abbrev pub syllabic_traits : ℕ → ShaperTraits
syllabic_traits zero_width = record { normalization = mode.ComposedDiacriticsNoShortCircuit; gpos_tag = None; zero_width_marks = zero_width; fallback_position = false }

-- the choices of the Hangul shaper and of Zawgyi's
abbrev pub hangul_traits : ShaperTraits
hangul_traits = record { normalization = mode.None; gpos_tag = None; zero_width_marks = HB_OT_SHAPE_ZERO_WIDTH_MARKS_NONE; fallback_position = false }

-- the choices of each script's shaper
abbrev pub script_traits : hb_ot_script_shaper_t → ShaperTraits
script_traits ARABIC_SHAPER = simple_traits
script_traits HANGUL_SHAPER = hangul_traits
script_traits HEBREW_SHAPER = record simple_traits { gpos_tag = Some (tag_of (codes "hebr")) }
script_traits INDIC_SHAPER = syllabic_traits HB_OT_SHAPE_ZERO_WIDTH_MARKS_NONE
script_traits KHMER_SHAPER = syllabic_traits HB_OT_SHAPE_ZERO_WIDTH_MARKS_NONE
script_traits MYANMAR_SHAPER = syllabic_traits HB_OT_SHAPE_ZERO_WIDTH_MARKS_BY_GDEF_EARLY
script_traits MYANMAR_ZAWGYI_SHAPER = hangul_traits
script_traits THAI_SHAPER = record simple_traits { fallback_position = false }
script_traits UNIVERSAL_SHAPER = syllabic_traits HB_OT_SHAPE_ZERO_WIDTH_MARKS_BY_GDEF_EARLY

-- the choices of a shaper
abbrev pub traits_of : hb_ot_any_shaper_t → ShaperTraits
traits_of any.Default = simple_traits
traits_of any.Dumber = record simple_traits { zero_width_marks = HB_OT_SHAPE_ZERO_WIDTH_MARKS_NONE; fallback_position = false }
traits_of (any.Script s) = script_traits s

-- the requests of a script's shaper, between the common ones (HarfBuzz: collect_features)
abbrev pub features_of : hb_ot_script_shaper_t → Option Script → Bool → List MapRequest
features_of ARABIC_SHAPER script has_rclt = arabic_features (is_arabic script) has_rclt
features_of HANGUL_SHAPER script has_rclt = hangul_features
features_of INDIC_SHAPER script has_rclt = indic_features
features_of KHMER_SHAPER script has_rclt = khmer_features
features_of MYANMAR_SHAPER script has_rclt = myanmar_features
features_of UNIVERSAL_SHAPER script has_rclt = universal_features
features_of _ script has_rclt = []

-- the requests of a script's shaper after the user's (HarfBuzz: override_features)
abbrev pub overrides_of : hb_ot_script_shaper_t → List MapRequest
overrides_of HANGUL_SHAPER = hangul_overrides
overrides_of INDIC_SHAPER = indic_overrides
overrides_of KHMER_SHAPER = khmer_overrides
overrides_of _ = []

-- the requests of a shaper between the common ones, where the font has or lacks `rclt`
abbrev pub shaper_features : hb_ot_any_shaper_t → Option Script → Bool → List MapRequest
shaper_features (any.Script s) script has_rclt = features_of s script has_rclt
shaper_features _ script has_rclt = []

-- the requests of a shaper after the user's
abbrev pub shaper_overrides : hb_ot_any_shaper_t → List MapRequest
shaper_overrides (any.Script s) = overrides_of s
shaper_overrides _ = []

-- a shaper keeps the order of clusters: all but the Indic one do
abbrev pub keeps_order : hb_ot_any_shaper_t → Bool
keeps_order (any.Script INDIC_SHAPER) = false
keeps_order _ = true

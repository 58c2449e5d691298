-- The feature requests of the Arabic shaper, in order (rustybuzz: hb/ot_shaper_arabic.rs).
use Rattle.std.specs.Prelude.{ℕ, Bool, false, ◌==◌, List, [], ◌∷◌, ◌++◌, Option, Some, None, codes, if◌then◌else◌}
use Rattle.std.specs.Int.RustNames.{bit_or}
use Rattle.buffer_common.specs.declared.script.Script.{Script}
use Rattle.buffer_common.specs.declared.script.TheConstants as script
use Rattle.layout_map_features.specs.declared.flags.TheConstants.{F_NONE, F_HAS_FALLBACK, F_MANUAL_ZWJ}
use Rattle.layout_map.specs.declared.request.MapRequest.{MapRequest}
use Rattle.layout_map.specs.Requests.{added_feature, enabled_feature, gsub_pause, stage_end}
use Rattle.script_categories.specs.declared.pause.hb_script_pause_t.TheVariants.{RecordStch}
use Rattle.script_categories.specs.Pauses.{pause_number}

-- the flag F_HAS_FALLBACK, for the Arabic script only
abbrev pub with_fallback : Bool → ℕ
with_fallback is_arabic = if is_arabic then bit_or F_MANUAL_ZWJ F_HAS_FALLBACK else F_MANUAL_ZWJ

-- the Arabic requests for stch, composition and localised forms, then for each form in a GSUB stage of its own
abbrev pub arabic_forms : Bool → List MapRequest
arabic_forms is_arabic =
    enabled_feature (codes "stch") F_NONE ∷ gsub_pause (pause_number RecordStch) ∷
    enabled_feature (codes "ccmp") F_MANUAL_ZWJ ∷ enabled_feature (codes "locl") F_MANUAL_ZWJ ∷ stage_end ∷
    added_feature (codes "isol") (with_fallback is_arabic) ∷ stage_end ∷
    added_feature (codes "fina") (with_fallback is_arabic) ∷ stage_end ∷
    added_feature (codes "fin2") F_MANUAL_ZWJ ∷ stage_end ∷
    added_feature (codes "fin3") F_MANUAL_ZWJ ∷ stage_end ∷
    added_feature (codes "medi") (with_fallback is_arabic) ∷ stage_end ∷
    added_feature (codes "med2") F_MANUAL_ZWJ ∷ stage_end ∷
    added_feature (codes "init") (with_fallback is_arabic) ∷ stage_end ∷
    enabled_feature (codes "rlig") (bit_or F_MANUAL_ZWJ F_HAS_FALLBACK) ∷
    []

-- the end of a GSUB stage, if a condition holds
abbrev pub stage_end_if : Bool → List MapRequest
stage_end_if ends = if ends then stage_end ∷ [] else []

-- the requests for rclt, with a GSUB stage of its own also in a font without the feature
abbrev pub required_contexts : Bool → List MapRequest
required_contexts has_rclt = if has_rclt then [] else stage_end ∷ enabled_feature (codes "rclt") F_MANUAL_ZWJ ∷ []

-- the Arabic requests for ligatures
abbrev pub arabic_ligatures : List MapRequest
arabic_ligatures = enabled_feature (codes "liga") F_MANUAL_ZWJ ∷ enabled_feature (codes "clig") F_MANUAL_ZWJ ∷ enabled_feature (codes "mset") F_MANUAL_ZWJ ∷ []

-- the requests of the Arabic shaper (HarfBuzz: collect_features_arabic)
abbrev pub arabic_features : Bool → Bool → List MapRequest
arabic_features is_arabic has_rclt =
    arabic_forms is_arabic ++ stage_end_if is_arabic ++ enabled_feature (codes "calt") F_MANUAL_ZWJ ∷ required_contexts has_rclt ++ arabic_ligatures

-- a text's script is Arabic
abbrev pub is_arabic : Option Script → Bool
is_arabic None = false
is_arabic (Some s) = s.0.0 == script.ARABIC.0.0

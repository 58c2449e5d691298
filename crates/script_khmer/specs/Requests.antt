-- The feature requests of the Khmer shaper, in order (rustybuzz: hb/ot_shaper_khmer.rs).
use Rattle.std.specs.Prelude.{List, [], ◌∷◌, codes}
use Rattle.layout_map_features.specs.declared.flags.TheConstants.{F_NONE, F_MANUAL_JOINERS, F_PER_SYLLABLE}
use Rattle.layout_map.specs.declared.request.MapRequest.{MapRequest}
use Rattle.layout_map.specs.Requests.{added_feature, disabled_feature, enabled_feature, gsub_pause, joiners_in_syllable}
use Rattle.script_categories.specs.declared.pause.hb_script_pause_t.TheVariants.{SetupSyllables, ReorderKhmer, ClearSyllables}
use Rattle.script_categories.specs.Pauses.{pause_number}

-- the requests of the Khmer shaper (HarfBuzz: collect_features_khmer)
abbrev pub khmer_features : List MapRequest
khmer_features =
    gsub_pause (pause_number SetupSyllables) ∷ gsub_pause (pause_number ReorderKhmer) ∷
    enabled_feature (codes "locl") F_PER_SYLLABLE ∷ enabled_feature (codes "ccmp") F_PER_SYLLABLE ∷
    added_feature (codes "pref") joiners_in_syllable ∷
    added_feature (codes "blwf") joiners_in_syllable ∷
    added_feature (codes "abvf") joiners_in_syllable ∷
    added_feature (codes "pstf") joiners_in_syllable ∷
    added_feature (codes "cfar") joiners_in_syllable ∷
    gsub_pause (pause_number ClearSyllables) ∷
    enabled_feature (codes "pres") F_MANUAL_JOINERS ∷
    enabled_feature (codes "abvs") F_MANUAL_JOINERS ∷
    enabled_feature (codes "blws") F_MANUAL_JOINERS ∷
    enabled_feature (codes "psts") F_MANUAL_JOINERS ∷
    []

-- the requests of the Khmer shaper after the user's (HarfBuzz: override_features_khmer)
abbrev pub khmer_overrides : List MapRequest
khmer_overrides = enabled_feature (codes "clig") F_NONE ∷ disabled_feature (codes "liga") ∷ []

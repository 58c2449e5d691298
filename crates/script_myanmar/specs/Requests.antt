-- The feature requests of the Myanmar shaper, in order (rustybuzz: hb/ot_shaper_myanmar.rs).
use Rattle.std.specs.Prelude.{List, [], ◌∷◌, codes}
use Rattle.layout_map_features.specs.declared.flags.TheConstants.{F_MANUAL_ZWJ, F_PER_SYLLABLE}
use Rattle.layout_map.specs.declared.request.MapRequest.{MapRequest}
use Rattle.layout_map.specs.Requests.{enabled_feature, gsub_pause, stage_end, zwj_in_syllable}
use Rattle.script_categories.specs.declared.pause.hb_script_pause_t.TheVariants.{SetupSyllables, ReorderMyanmar, ClearSyllables}
use Rattle.script_categories.specs.Pauses.{pause_number}

-- the requests of the Myanmar shaper (HarfBuzz: collect_features_myanmar)
abbrev pub myanmar_features : List MapRequest
myanmar_features =
    gsub_pause (pause_number SetupSyllables) ∷
    enabled_feature (codes "locl") F_PER_SYLLABLE ∷ enabled_feature (codes "ccmp") F_PER_SYLLABLE ∷ gsub_pause (pause_number ReorderMyanmar) ∷
    enabled_feature (codes "rphf") zwj_in_syllable ∷ stage_end ∷
    enabled_feature (codes "pref") zwj_in_syllable ∷ stage_end ∷
    enabled_feature (codes "blwf") zwj_in_syllable ∷ stage_end ∷
    enabled_feature (codes "pstf") zwj_in_syllable ∷ stage_end ∷ gsub_pause (pause_number ClearSyllables) ∷
    enabled_feature (codes "pres") F_MANUAL_ZWJ ∷
    enabled_feature (codes "abvs") F_MANUAL_ZWJ ∷
    enabled_feature (codes "blws") F_MANUAL_ZWJ ∷
    enabled_feature (codes "psts") F_MANUAL_ZWJ ∷
    []

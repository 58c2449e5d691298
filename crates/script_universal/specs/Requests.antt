-- The feature requests of the universal shaper, in order (rustybuzz: hb/ot_shaper_use.rs).
use Rattle.std.specs.Prelude.{List, [], ◌∷◌, codes}
use Rattle.layout_map_features.specs.declared.flags.TheConstants.{F_NONE, F_MANUAL_ZWJ, F_PER_SYLLABLE}
use Rattle.layout_map.specs.declared.request.MapRequest.{MapRequest}
use Rattle.layout_map.specs.Requests.{added_feature, enabled_feature, gsub_pause, stage_end, zwj_in_syllable}
use Rattle.script_categories.specs.declared.pause.hb_script_pause_t.TheVariants.{SetupSyllables, ClearSyllables, ClearSubstitutionFlags, RecordRphf, RecordPref, ReorderUse}
use Rattle.script_categories.specs.Pauses.{pause_number}

-- the requests of the universal shaper (HarfBuzz: collect_features_use)
abbrev pub universal_features : List MapRequest
universal_features =
    gsub_pause (pause_number SetupSyllables) ∷
    enabled_feature (codes "locl") F_PER_SYLLABLE ∷
    enabled_feature (codes "ccmp") F_PER_SYLLABLE ∷
    enabled_feature (codes "nukt") F_PER_SYLLABLE ∷
    enabled_feature (codes "akhn") zwj_in_syllable ∷
    gsub_pause (pause_number ClearSubstitutionFlags) ∷
    added_feature (codes "rphf") zwj_in_syllable ∷ gsub_pause (pause_number RecordRphf) ∷ gsub_pause (pause_number ClearSubstitutionFlags) ∷
    enabled_feature (codes "pref") zwj_in_syllable ∷ gsub_pause (pause_number RecordPref) ∷
    enabled_feature (codes "rkrf") zwj_in_syllable ∷
    enabled_feature (codes "abvf") zwj_in_syllable ∷
    enabled_feature (codes "blwf") zwj_in_syllable ∷
    enabled_feature (codes "half") zwj_in_syllable ∷
    enabled_feature (codes "pstf") zwj_in_syllable ∷
    enabled_feature (codes "vatu") zwj_in_syllable ∷
    enabled_feature (codes "cjct") zwj_in_syllable ∷
    gsub_pause (pause_number ReorderUse) ∷ gsub_pause (pause_number ClearSyllables) ∷
    added_feature (codes "isol") F_NONE ∷
    added_feature (codes "init") F_NONE ∷
    added_feature (codes "medi") F_NONE ∷
    added_feature (codes "fina") F_NONE ∷
    stage_end ∷
    enabled_feature (codes "abvs") F_MANUAL_ZWJ ∷
    enabled_feature (codes "blws") F_MANUAL_ZWJ ∷
    enabled_feature (codes "haln") F_MANUAL_ZWJ ∷
    enabled_feature (codes "pres") F_MANUAL_ZWJ ∷
    enabled_feature (codes "psts") F_MANUAL_ZWJ ∷
    []

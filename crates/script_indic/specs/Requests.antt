-- The feature requests of the Indic shaper, in order (rustybuzz: hb/ot_shaper_indic.rs).
use Rattle.std.specs.Prelude.{List, [], ◌∷◌, codes}
use Rattle.layout_map_features.specs.declared.flags.TheConstants.{F_PER_SYLLABLE}
use Rattle.layout_map.specs.declared.request.MapRequest.{MapRequest}
use Rattle.layout_map.specs.Requests.{added_feature, disabled_feature, enabled_feature, gsub_pause, joiners_in_syllable, stage_end}
use Rattle.script_categories.specs.declared.pause.hb_script_pause_t.TheVariants.{SetupSyllables, ClearSyllables, InitialReordering, FinalReordering}
use Rattle.script_categories.specs.Pauses.{pause_number}

-- the requests of the Indic shaper (HarfBuzz: collect_features_indic)
abbrev pub indic_features : List MapRequest
indic_features =
    gsub_pause (pause_number SetupSyllables) ∷
    enabled_feature (codes "locl") F_PER_SYLLABLE ∷ enabled_feature (codes "ccmp") F_PER_SYLLABLE ∷ gsub_pause (pause_number InitialReordering) ∷
    enabled_feature (codes "nukt") joiners_in_syllable ∷ stage_end ∷ enabled_feature (codes "akhn") joiners_in_syllable ∷ stage_end ∷
    added_feature (codes "rphf") joiners_in_syllable ∷ stage_end ∷ enabled_feature (codes "rkrf") joiners_in_syllable ∷ stage_end ∷
    added_feature (codes "pref") joiners_in_syllable ∷
    stage_end ∷
    added_feature (codes "blwf") joiners_in_syllable ∷
    stage_end ∷
    added_feature (codes "abvf") joiners_in_syllable ∷
    stage_end ∷
    added_feature (codes "half") joiners_in_syllable ∷
    stage_end ∷
    added_feature (codes "pstf") joiners_in_syllable ∷ stage_end ∷ enabled_feature (codes "vatu") joiners_in_syllable ∷ stage_end ∷
    enabled_feature (codes "cjct") joiners_in_syllable ∷ stage_end ∷
    gsub_pause (pause_number FinalReordering) ∷
    added_feature (codes "init") joiners_in_syllable ∷
    enabled_feature (codes "pres") joiners_in_syllable ∷
    enabled_feature (codes "abvs") joiners_in_syllable ∷
    enabled_feature (codes "blws") joiners_in_syllable ∷
    enabled_feature (codes "psts") joiners_in_syllable ∷
    enabled_feature (codes "haln") joiners_in_syllable ∷
    []

-- the requests of the Indic shaper after the user's (HarfBuzz: override_features_indic)
abbrev pub indic_overrides : List MapRequest
indic_overrides = disabled_feature (codes "liga") ∷ gsub_pause (pause_number ClearSyllables) ∷ []

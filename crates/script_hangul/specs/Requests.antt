-- The feature requests of the Hangul shaper, in order (rustybuzz: hb/ot_shaper_hangul.rs).
use Rattle.std.specs.Prelude.{List, [], ◌∷◌, codes}
use Rattle.layout_map_features.specs.declared.flags.TheConstants.{F_NONE}
use Rattle.layout_map.specs.declared.request.MapRequest.{MapRequest}
use Rattle.layout_map.specs.Requests.{added_feature, disabled_feature}

-- the requests of the Hangul shaper (HarfBuzz: collect_features_hangul)
abbrev pub hangul_features : List MapRequest
hangul_features = added_feature (codes "ljmo") F_NONE ∷ added_feature (codes "vjmo") F_NONE ∷ added_feature (codes "tjmo") F_NONE ∷ []

-- the requests of the Hangul shaper after the user's (HarfBuzz: override_features_hangul)
abbrev pub hangul_overrides : List MapRequest
hangul_overrides = disabled_feature (codes "calt") ∷ []

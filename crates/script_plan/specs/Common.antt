-- The feature requests of every text, and those of the user.
use Rattle.std.specs.Prelude.{List, [], ◌∷◌, ◌++◌, codes, if◌then◌else◌}
use Rattle.std.specs.Int.RustNames.{bit_or}
use Rattle.buffer_common.specs.Tag.{tag_of}
use Rattle.buffer_common.specs.declared.direction.Direction.{Direction}
use Rattle.buffer_common.specs.declared.direction.Direction.TheVariants.{LeftToRight, RightToLeft}
use Rattle.buffer_common.specs.Direction.{is_horizontal}
use Rattle.buffer_tags.specs.declared.feature.Feature as text
use Rattle.buffer_tags.specs.Feature.{is_global}
use Rattle.layout_map_features.specs.declared.flags.TheConstants.{F_NONE, F_GLOBAL, F_HAS_FALLBACK, F_MANUAL_JOINERS, F_GLOBAL_SEARCH, F_RANDOM}
use Rattle.layout_map.specs.declared.request.MapRequest.{MapRequest}
use Rattle.layout_map.specs.declared.request.MapRequest.TheVariants.{Feature}
use Rattle.layout_map.specs.Requests.{added_feature, enabled_feature, stage_end}

-- the requests for alternates and mirrored forms by direction: ltra, ltrm, rtla, rtlm
abbrev pub of_side : Direction → List MapRequest
of_side LeftToRight = enabled_feature (codes "ltra") F_NONE ∷ enabled_feature (codes "ltrm") F_NONE ∷ []
of_side RightToLeft = enabled_feature (codes "rtla") F_NONE ∷ added_feature (codes "rtlm") F_NONE ∷ []
of_side _ = []

-- the requests before the shaper's: required variations in a GSUB stage of their own, then those by direction,
-- fractions where a mask is set, and random alternates; then tracking, and the custom features of HarfBuzz (HarfBuzz:
-- hb_ot_shape_collect_features)
abbrev pub first_requests : Direction → List MapRequest
first_requests direction =
    enabled_feature (codes "rvrn") F_NONE ∷ stage_end ∷
    of_side direction ++
    added_feature (codes "frac") F_NONE ∷ added_feature (codes "numr") F_NONE ∷ added_feature (codes "dnom") F_NONE ∷
    Feature (tag_of (codes "rand")) (bit_or F_GLOBAL F_RANDOM) 255 ∷
    enabled_feature (codes "trak") F_HAS_FALLBACK ∷
    enabled_feature (codes "Harf") F_NONE ∷ enabled_feature (codes "HARF") F_NONE ∷
    []

-- the requests of horizontal lines for ligatures, contexts, joins and kerning; of vertical lines for vertical forms, in
-- whichever language system the font lists them
abbrev pub of_line : Direction → List MapRequest
of_line direction =
    if is_horizontal direction then
    enabled_feature (codes "calt") F_NONE ∷ enabled_feature (codes "clig") F_NONE ∷ enabled_feature (codes "curs") F_NONE ∷ enabled_feature (codes "dist") F_NONE ∷ enabled_feature (codes "kern") F_HAS_FALLBACK ∷ enabled_feature (codes "liga") F_NONE ∷ enabled_feature (codes "rclt") F_NONE ∷ []
    else enabled_feature (codes "vert") F_GLOBAL_SEARCH ∷ []

-- the requests after the shaper's: marks, composition and localised forms
abbrev pub common_features_after : Direction → List MapRequest
common_features_after direction =
    enabled_feature (codes "Buzz") F_NONE ∷ enabled_feature (codes "BUZZ") F_NONE ∷
    enabled_feature (codes "abvm") F_NONE ∷ enabled_feature (codes "blwm") F_NONE ∷ enabled_feature (codes "ccmp") F_NONE ∷ enabled_feature (codes "locl") F_NONE ∷
    enabled_feature (codes "mark") F_MANUAL_JOINERS ∷ enabled_feature (codes "mkmk") F_MANUAL_JOINERS ∷ enabled_feature (codes "rlig") F_NONE ∷
    of_line direction

-- the request of a user's feature, for every glyph or for a range
abbrev pub request_of : text.Feature → MapRequest
request_of f = Feature f.tag (if is_global f then F_GLOBAL else F_NONE) f.value

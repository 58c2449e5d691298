-- The requests to a map builder.
use Rattle.std.specs.Prelude.{ℕ, List}
use Rattle.std.specs.Int.RustNames.{bit_or}
use Rattle.buffer_common.specs.Tag.{tag_of}
use Rattle.layout_map_features.specs.declared.flags.TheConstants.{F_GLOBAL, F_MANUAL_JOINERS, F_MANUAL_ZWJ, F_PER_SYLLABLE}
use Rattle.layout_map.specs.Compiled.{MapRequests, with_request, with_gsub_pause}
use Rattle.layout_map.specs.declared.request.MapRequest.{MapRequest}
use Rattle.layout_map.specs.declared.request.MapRequest.TheVariants.{Feature, GsubPause}

-- the requests with one more
abbrev pub with_map_request : MapRequests → MapRequest → MapRequests
with_map_request b (Feature tag flags value) = with_request tag flags value b
with_map_request b (GsubPause pause) = with_gsub_pause pause b

-- the request of a feature for every glyph (HarfBuzz: enable_feature)
abbrev pub enabled_feature : List ℕ → ℕ → MapRequest
enabled_feature name flags = Feature (tag_of name) (bit_or F_GLOBAL flags) 1

-- the request of a feature where a mask is set (HarfBuzz: add_feature)
abbrev pub added_feature : List ℕ → ℕ → MapRequest
added_feature name flags = Feature (tag_of name) flags 1

-- the request that a feature is off for every glyph (HarfBuzz: disable_feature)
abbrev pub disabled_feature : List ℕ → MapRequest
disabled_feature name = Feature (tag_of name) F_GLOBAL 0

-- the end of a GSUB stage with the pause of a number (HarfBuzz: add_gsub_pause)
abbrev pub gsub_pause : ℕ → MapRequest
gsub_pause pause = GsubPause pause

-- the end of a GSUB stage without a pause
abbrev pub stage_end : MapRequest
stage_end = GsubPause 0

-- the flags of features within a syllable, with both joiners matched by hand (HarfBuzz: F_MANUAL_JOINERS |
-- F_PER_SYLLABLE)
abbrev pub joiners_in_syllable : ℕ
joiners_in_syllable = bit_or F_MANUAL_JOINERS F_PER_SYLLABLE

-- the flags of features within a syllable, with the zero width joiner matched by hand (HarfBuzz: F_MANUAL_ZWJ |
-- F_PER_SYLLABLE)
abbrev pub zwj_in_syllable : ℕ
zwj_in_syllable = bit_or F_MANUAL_ZWJ F_PER_SYLLABLE

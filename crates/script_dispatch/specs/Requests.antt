-- The feature requests of this stack's shapers.
use Rattle.std.specs.Prelude.{Bool, fold, Option, codes, ⊤}
use Rattle.buffer_common.specs.declared.script.Script.{Script}
use Rattle.buffer_common.specs.Tag.{tag_of}
use Rattle.layout_map.specs.Compiled.{MapRequests}
use Rattle.layout_map.specs.Features.{in_any, system_features}
use Rattle.layout_map.specs.Requests.{with_map_request}
use Rattle.script_plan.specs.Traits.{ShaperKind}
use Rattle.script_dispatch.specs.declared.any_shaper.hb_ot_any_shaper_t.{hb_ot_any_shaper_t}
use Rattle.script_dispatch.specs.Dispatch.{shaper_of}
use Rattle.script_dispatch.specs.Shapers.{shaper_features, shaper_overrides, traits_of}

-- a language system of the font has the feature rclt
abbrev pub has_rclt : MapRequests → Bool
has_rclt b = in_any (system_features (tag_of (codes "rclt")) b.tables)

-- the requests with a shaper's features, between the common ones
abbrev pub collected_requests : hb_ot_any_shaper_t → Option Script → MapRequests → MapRequests
collected_requests shaper script b = fold with_map_request b (shaper_features shaper script (has_rclt b))

-- the requests with a shaper's features after the user's
abbrev pub overridden : hb_ot_any_shaper_t → Option Script → MapRequests → MapRequests
overridden shaper script b = fold with_map_request b (shaper_overrides shaper)

-- the family of this stack's shapers, which have no data of their own in a plan
abbrev pub any_kind : ShaperKind hb_ot_any_shaper_t ⊤
any_kind = record {
  shaper_of = shaper_of;
  traits = traits_of;
  asking = λ shaper. record { collects = collected_requests shaper; overrides = overridden shaper };
  data_of = λ shaper m script. tt;
}

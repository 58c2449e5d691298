-- The feature requests of a text: the common ones, its shaper's, and the user's.
use Rattle.std.specs.Prelude.{List, map, fold, Option}
use Rattle.buffer_common.specs.declared.script.Script.{Script}
use Rattle.buffer_common.specs.declared.direction.Direction.{Direction}
use Rattle.buffer_tags.specs.declared.feature.Feature.{Feature}
use Rattle.layout_map.specs.Compiled.{MapRequests}
use Rattle.layout_map.specs.Requests.{with_map_request}
use Rattle.script_plan.specs.Common.{first_requests, common_features_after, request_of}

-- a shaper's requests: those before the user's, and those after
pub record Asking : Type 0 where
  pub collects : Option Script → MapRequests → MapRequests
  pub overrides : Option Script → MapRequests → MapRequests

-- the requests with those of the user
abbrev pub with_user : List Feature → MapRequests → MapRequests
with_user features b = fold with_map_request b (map request_of features)

-- all requests in order: the common ones before the shaper's, the shaper's, the common ones after them, the user's, and
-- the shaper's overrides (HarfBuzz: hb_ot_shape_collect_features)
abbrev pub with_requests : Asking → Direction → Option Script → List Feature → MapRequests → MapRequests
with_requests asking direction script features b =
    asking.overrides script (with_user features (fold with_map_request (asking.collects script (fold with_map_request b (first_requests direction))) (common_features_after direction)))

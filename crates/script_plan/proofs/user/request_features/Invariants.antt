use Rattle.std.proofs.Common.{◌≡◌, drop, fold, map}
use Rattle.layout_map.specs.Requests.{with_map_request}
use Rattle.script_plan.specs.Common.{request_of}
use Rattle.script_plan.proofs.user.request_features.Given as goal

-- the requests that are left, after those made, are all requests
abbrev pub invariant-loop-feature : goal.invariant-loop-feature
invariant-loop-feature l = fold with_map_request l.builder (map request_of (drop l.feature-index l.features)) ≡ fold with_map_request l.initial.builder (map request_of l.features)

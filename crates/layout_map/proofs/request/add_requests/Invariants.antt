use Rattle.std.proofs.Common.{◌≡◌, drop, fold, take}
use Rattle.layout_map.specs.Requests.{with_map_request}
use Rattle.layout_map.proofs.request.add_requests.Given as goal

-- the requests before this one are made; those that are left, after these, are all requests
abbrev pub invariant-loop-request : goal.invariant-loop-request
invariant-loop-request l = record {
  made : l.builder ≡ fold with_map_request l.initial.builder (take l.request-index l.requests);
  left : fold with_map_request l.builder (drop l.request-index l.requests) ≡ fold with_map_request l.initial.builder l.requests;
}

use Rattle.std.proofs.Common.{◌≡◌, take}
use Rattle.buffer_rows.specs.KeyOrder.{key_bound}
use Rattle.layout_map_features.specs.Groups.{entries_below}
use Rattle.layout_map_features.specs.Requests.{merged_request}
use Rattle.layout_map_features.proofs.merge.many_requests.Given as goal

-- the requests so far are entered
abbrev pub invariant-loop-request : goal.invariant-loop-request
invariant-loop-request l =
    l.by_tag.entries ≡ entries_below (λ r. r.tag.0) merged_request (key_bound (λ r. r.tag.0) l.requests) (take l.request-index l.requests)

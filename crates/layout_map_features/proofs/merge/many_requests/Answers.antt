use Rattle.layout_map_features.proofs.Grouping.{request_step}
use Rattle.layout_map_features.proofs.merge.many_requests.Goals as goal

pub loop-request-preserved : goal.loop-request-preserved
loop-request-preserved c =
    request_step c.args.requests.now c.loop-request.request-index _ c.loop-request.by_tag.entries c.enter_request.new.by_tag.entries
    c.loop-request-test.true c.loop-request.invariant c.in_ok-enter_request.ensures

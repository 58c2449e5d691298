use Rattle.std.proofs.Common.{◌≤◌, length, arith}
use Rattle.layout_map_features.proofs.Threading.{kept_done}
use Rattle.layout_map_features.proofs.kept_fields.kept_fields.Goals as goal

pub returns : goal.returns
returns c =
    let end : length c.args.requests.now ≤ c.loop-request.request-index = omega (arith, c.loop-request-test.false) in
    kept_done c.args.requests.now c.loop-request.kept.items c.loop-request.next c.loop-request.request-index c.requires end c.loop-request.invariant.whole

use Rattle.std.proofs.Common.{take, arith}
use Rattle.buffer_rows.specs.KeyOrder.{key_bound}
use Rattle.layout_map_features.specs.declared.request.FeatureRequest.{FeatureRequest}
use Rattle.layout_map_features.specs.declared.request.MergedRequest.{MergedRequest}
use Rattle.layout_map_features.specs.Entering.{entries_of}
use Rattle.layout_map_features.specs.Requests.{merged_request}
use Rattle.layout_map_features.proofs.Grouping.{request_step}
use Rattle.layout_map_features.proofs.Inserting.{all_values, none_yet, requests_are_in_order}
use Rattle.layout_map_features.proofs.merge.few_requests.Goals as goal

pub loop-request-init : goal.loop-request-init
loop-request-init c =
    none_yet (λ (r : FeatureRequest). r.tag.0) (λ (m : MergedRequest). m.tag.0) merged_request (key_bound (λ r. r.tag.0) c.args.requests.now) c.in_ok-merged.merged.items c.args.requests.now c.in_ok-merged.ensures.items

pub merge_request-requires : goal.merge_request-requires
merge_request-requires c = requests_are_in_order c.loop-request.merged.items (key_bound (λ r. r.tag.0) c.args.requests.now) (take c.loop-request.request-index c.args.requests.now) c.loop-request.invariant

pub loop-request-preserved : goal.loop-request-preserved
loop-request-preserved c =
    request_step c.args.requests.now c.loop-request.request-index _ (entries_of (λ (m : MergedRequest). m.tag.0) c.loop-request.merged.items) (entries_of (λ (m : MergedRequest). m.tag.0) c.merge_request.new.merged.items)
    c.loop-request-test.true c.loop-request.invariant c.in_ok-merge_request.ensures

pub returns : goal.returns
returns c =
    all_values (λ (r : FeatureRequest). r.tag.0) (λ (m : MergedRequest). m.tag.0) merged_request (key_bound (λ r. r.tag.0) c.args.requests.now) c.loop-request.request-index c.loop-request.merged.items c.args.requests.now
    (omega (arith, c.loop-request-test.false)) c.loop-request.invariant

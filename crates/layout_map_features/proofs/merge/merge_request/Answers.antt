use Rattle.std.proofs.Common.{refl, arith}
use Rattle.layout_map_features.specs.declared.request.FeatureRequest.{FeatureRequest}
use Rattle.layout_map_features.specs.declared.request.MergedRequest.{MergedRequest}
use Rattle.layout_map_features.specs.Requests.{merged_request, request_with_later}
use Rattle.layout_map_features.proofs.Inserting.{written_over, inserted_within, inserted_last}
use Rattle.layout_map_features.proofs.merge.merge_request.Goals as goal
use Rattle.layout_map_features.proofs.merge.merge_request.Goals.{else-at-len-via-then-at-len+else-index-request, else-at-len-via-else-at-len}

pub returns-then-index-request : goal.returns-then-index-request
returns-then-index-request c =
    let start = rw c.deref.ensures.value at c.tag_index-at.ensures in
    written_over (λ (r : FeatureRequest). r.tag.0) (λ (m : MergedRequest). m.tag.0) merged_request request_with_later c.args.request.now (λ m. refl) c.args.merged.now.items c.tag_index-at.result
    c.index-then-index-request.result.now c.index.result.now c.with.result start (omega arith) c.index.ensures c.if-index-request.true c.index-then-index-request.ensures c.with.ensures

pub returns : goal.returns
returns c =
    let start = rw c.deref.ensures.value at c.tag_index-at.ensures in
    elim c.else-at-len.branch [
      | else-at-len-via-then-at-len+else-index-request w ↦
          inserted_within (λ (r : FeatureRequest). r.tag.0) (λ (m : MergedRequest). m.tag.0) merged_request request_with_later c.args.request.now refl c.args.merged.now.items c.insert.new.self.items
          c.tag_index-at.result w.index.result.now c.new.result c.requires start (omega arith) w.index.ensures w.if-index-request.false c.new.ensures c.in_ok-insert.ensures.items
      | else-at-len-via-else-at-len w ↦
          inserted_last (λ (r : FeatureRequest). r.tag.0) (λ (m : MergedRequest). m.tag.0) merged_request request_with_later c.args.request.now refl c.args.merged.now.items c.insert.new.self.items
          c.tag_index-at.result c.new.result c.requires start (omega arith) c.new.ensures c.in_ok-insert.ensures.items
    ]

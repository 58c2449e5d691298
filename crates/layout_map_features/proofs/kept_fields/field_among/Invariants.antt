use Rattle.std.proofs.Common.{◌≡◌, ◌≤◌, drop, fold}
use Rattle.layout_map_features.specs.Fields.{bit_after, below_tag, free_bit}
use Rattle.layout_map_features.proofs.kept_fields.field_among.Given as goal

-- the free bit after the lower tags so far, and then after those that are left
abbrev pub invariant-loop-other : goal.invariant-loop-other
invariant-loop-other l = record {
  within : l.next ≤ 31;
  whole : fold bit_after l.next (below_tag l.request.tag.0 (drop l.other-index l.requests)) ≡ free_bit (below_tag l.request.tag.0 l.requests);
}

use Rattle.std.proofs.Common.{◌≡◌, ◌≤◌, ◌++◌, drop}
use Rattle.layout_map_features.specs.Fields.{first_feature_bit}
use Rattle.layout_map_features.proofs.Threading.{kept_from}
use Rattle.layout_map_features.proofs.kept_fields.kept_fields.Given as goal

-- the fields so far, and then those of the requests that are left
abbrev pub invariant-loop-request : goal.invariant-loop-request
invariant-loop-request l = record {
  within : l.next ≤ 31;
  whole : l.kept.items ++ kept_from l.next (drop l.request-index l.requests) ≡ kept_from first_feature_bit l.requests;
}

use Rattle.std.proofs.Common.{◌≡◌, ◌+◌, ◌-◌, ◌*◌, ◌++◌}
use Rattle.font_bytes.specs.Records.{records}
use Rattle.font_lists.specs.Variations.{alternate_feature}
use Rattle.font_lists.proofs.variations.read_alternates.Given as goal

-- the records so far and those that are left are all
abbrev pub invariant-loop-index : goal.invariant-loop-index
invariant-loop-index l = l.alternates.items ++ records (alternate_feature l.table l.base) 6 (l.at + 6 * l.index) (l.count - l.index) ≡ records (alternate_feature l.table l.base) 6 l.at l.count

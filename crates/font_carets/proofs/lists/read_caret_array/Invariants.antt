use Rattle.std.proofs.Common.{◌≡◌, ◌+◌, ◌*◌, ◌-◌, ◌++◌}
use Rattle.font_bytes.specs.Records.{records}
use Rattle.font_carets.specs.Lists.{caret_record}
use Rattle.font_carets.proofs.lists.read_caret_array.Given as goal

-- the carets so far and those that are left are all
abbrev pub invariant-loop-index : goal.invariant-loop-index
invariant-loop-index l = l.carets.items ++ records (caret_record l.table l.start) 2 (l.at + 2 * l.index) (l.count - l.index) ≡ records (caret_record l.table l.start) 2 l.at l.count

use Rattle.std.proofs.Common.{◌≡◌, ◌+◌, ◌*◌, ◌-◌, ◌++◌}
use Rattle.font_bytes.specs.Words.{byte}
use Rattle.font_bytes.specs.Records.{records}
use Rattle.font_cff.proofs.selects.read_listed.Given as goal

-- those so far and those that are left are all
abbrev pub invariant-loop-index : goal.invariant-loop-index
invariant-loop-index l = l.selects.items ++ records (byte l.table) 1 (l.at + 1 * l.index) (l.count - l.index) ≡ records (byte l.table) 1 l.at l.count

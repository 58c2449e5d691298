use Rattle.std.proofs.Common.{◌≡◌, ◌+◌, ◌*◌, ◌-◌, ◌++◌}
use Rattle.font_bytes.specs.Records.{records}
use Rattle.font_kern.specs.Pairs.{pair_row}
use Rattle.font_kern.proofs.pairs.read_pairs.Given as goal

-- the pairs so far, and those that are left, are all
abbrev pub invariant-loop-index : goal.invariant-loop-index
invariant-loop-index l =
    l.rows.items ++ records (pair_row l.is_backward l.table) 6 (l.at + 8 + 6 * l.index) (l.count - l.index)
    ≡ records (pair_row l.is_backward l.table) 6 (l.at + 8) l.count

use Rattle.std.proofs.Common.{◌≡◌, ◌*◌, ◌+◌, ◌/◌, length}
use Rattle.layout_common.proofs.ColumnBits.{HasSubtables}
use Rattle.layout_common.proofs.columns.columns.Given as goal

-- the columns have the bits of the subtables so far
abbrev pub invariant-loop-k : goal.invariant-loop-k
invariant-loop-k g l = record {
  size : length l.words.items ≡ (length l.items + 63) / 64 * 513;
  set : HasSubtables (λ s. g.S.Covers.admits s l.side) l.items l.words.items l.k;
}

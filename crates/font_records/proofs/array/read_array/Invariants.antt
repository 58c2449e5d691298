use Rattle.std.proofs.Common.{◌≡◌, ◌≤◌, ◌+◌, ◌*◌, ◌-◌, length}
use Rattle.font_bytes.specs.Records.{records}
use Rattle.font_common.specs.Offsets.{after}
use Rattle.font_records.specs.Turns.{in_turn, if_any, array_at}
use Rattle.font_records.proofs.array.read_array.Given as goal

-- the values so far, and those of the records that are left, are all; these records are within the bytes
abbrev pub invariant-loop-index : goal.invariant-loop-index
invariant-loop-index g l = record {
  within : l.at + g.R.RecordReader.width_of l.reader * (l.count - l._index) ≤ length l.table;
  all : array_at (g.R.RecordReader.item_at l.reader l.table) (g.R.RecordReader.width_of l.reader) l.fn.at l.count l.fn.room.left
      ≡ after l.items.items (in_turn (λ r o. if_any (g.R.RecordReader.item_at l.reader l.table r o)) l.room.left (records (λ o. o) (g.R.RecordReader.width_of l.reader) l.at (l.count - l._index)));
}

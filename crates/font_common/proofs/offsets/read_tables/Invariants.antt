use Rattle.std.proofs.Common.{◌≡◌, ◌+◌, ◌*◌, ◌-◌}
use Rattle.font_bytes.specs.Words.{word}
use Rattle.font_bytes.specs.Records.{records}
use Rattle.font_common.specs.Offsets.{after, tables_in, tables_at, value_at_offset}
use Rattle.font_common.proofs.offsets.read_tables.Given as goal

-- the tables so far, and those of the offsets that are left, are all
abbrev pub invariant-loop-index : goal.invariant-loop-index
invariant-loop-index g l = tables_at (g.T.TableReader.null_value l.reader) (g.T.TableReader.value_at l.reader) l.bytes l.base l.at l.count l.fn.room.left
    ≡ after l.tables.items (tables_in (λ r o. value_at_offset (g.T.TableReader.null_value l.reader) (g.T.TableReader.value_at l.reader) r l.bytes l.base o)
    l.room.left (records (word l.bytes) 2 (l.at + 2 * l.index) (l.count - l.index)))

use Rattle.std.proofs.Common.{◌≡◌, ◌+◌, ◌*◌, ◌-◌, find}
use Rattle.font_bytes.specs.Records.{records}
use Rattle.font_cmap.specs.Encodings.{encoding_record, is_encoding}
use Rattle.font_cmap.proofs.encodings.find_subtable.Given as goal

-- the first of the records that are left is the first of all
abbrev pub invariant-loop-index : goal.invariant-loop-index
invariant-loop-index l =
    find (is_encoding l.platform l.encoding) (records (encoding_record l.table) 8 (4 + 8 * l.index) (l.count - l.index))
    ≡ find (is_encoding l.platform l.encoding) (records (encoding_record l.table) 8 4 l.count)

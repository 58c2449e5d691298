use Rattle.std.proofs.Common.{◌≡◌, ◌+◌, ◌-◌, ◌*◌, ◌++◌}
use Rattle.font_bytes.specs.Records.{records}
use Rattle.shell_tables_bytes.proofs.sections.read_section.Given as goal

-- the records that are read, and those that are left, are all
abbrev pub invariant-loop-index : goal.invariant-loop-index
invariant-loop-index g l =
    l.rows.items ++ records (g.T.RecordReader.means l.bytes) g.T.RecordReader.width (l.section.start + g.T.RecordReader.width * l.index) (l.section.count - l.index)
    ≡ records (g.T.RecordReader.means l.bytes) g.T.RecordReader.width l.section.start l.section.count

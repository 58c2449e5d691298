use Rattle.std.proofs.Common.{◌≡◌, ◌+◌, ◌-◌, ◌*◌, ◌++◌}
use Rattle.font_bytes.specs.Words.{word}
use Rattle.font_bytes.specs.Records.{records}
use Rattle.font_common.specs.ClassDefinition.{listed_rows, class_array}
use Rattle.font_common.proofs.class_definition.read_array.Given as goal

-- the rows so far and those of the classes that are left are all
abbrev pub invariant-loop-index : goal.invariant-loop-index
invariant-loop-index l = l.rows.items ++ listed_rows (l.first + l.index) (records (word l.table) 2 (l.at + 2 * l.index) (l.count - l.index)) ≡ listed_rows l.first (class_array l.table l.at l.count)

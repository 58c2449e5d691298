use Rattle.std.proofs.Common.{◌≡◌, ◌+◌, ◌-◌, ◌*◌, ◌++◌, length}
use Rattle.font_bytes.specs.Records.{records}
use Rattle.shell_tables_bytes.specs.Languages.{tag_at, tags_at}
use Rattle.shell_tables_bytes.proofs.languages.tags_of.Given as goal

-- the tags so far, and those that are left
abbrev pub invariant-loop-index : goal.invariant-loop-index
invariant-loop-index l = record {
  tags : l.tags.items ++ records (tag_at l.bytes) 4 (l.at + 14 + 4 * l.index) (l.count - l.index) ≡ tags_at l.bytes l.at;
  count : length l.tags.items ≡ l.index;
}

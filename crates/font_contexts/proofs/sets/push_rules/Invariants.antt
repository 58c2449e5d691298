use Rattle.std.proofs.Common.{◌≡◌, ◌+◌, ◌*◌, ◌-◌}
use Rattle.font_bytes.specs.Words.{word}
use Rattle.font_bytes.specs.Records.{records}
use Rattle.font_common.specs.Offsets.{after, tables_in, tables_at, value_at_offset}
use Rattle.font_contexts.specs.Rules.{empty_rule, rule_at}
use Rattle.font_contexts.proofs.sets.push_rules.Given as goal

-- the rules so far, and those of the offsets that are left, are all
abbrev pub invariant-loop-index : goal.invariant-loop-index
invariant-loop-index l = record {
  all : after l.fn.rules.items (tables_at (empty_rule l.reader.first) (rule_at l.reader.chained l.reader.lookup_count l.reader.first) l.table l.base (l.base + 2) l.count l.fn.room.left)
      ≡ after l.rules.items (tables_in (λ r o. value_at_offset (empty_rule l.reader.first) (rule_at l.reader.chained l.reader.lookup_count l.reader.first) r l.table l.base o)
      l.room.left (records (word l.table) 2 (l.base + 2 + 2 * l.index) (l.count - l.index)));
}

use Rattle.std.proofs.Common.{◌≡◌, ◌+◌, ◌-◌, ◌*◌, ◌++◌, length}
use Rattle.font_bytes.specs.Records.{records}
use Rattle.font_bytes.specs.Words.{word}
use Rattle.font_common.specs.Words.{words_at}
use Rattle.font_contexts.proofs.few.push_few.Given as goal

-- the numbers so far and those that are left are all
abbrev pub invariant-loop-index : goal.invariant-loop-index
invariant-loop-index g l = record {
  all : l.items.items ++ records (word l.table) 2 (l.at + 2 * l.index) (l.count - l.index) ≡ l.fn.items.items ++ words_at l.table l.at l.count;
  size : length l.items.items ≡ length l.fn.items.items + l.index;
}

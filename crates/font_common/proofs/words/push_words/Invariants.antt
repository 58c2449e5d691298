use Rattle.std.proofs.Common.{◌≡◌, ◌+◌, ◌-◌, ◌*◌, ◌++◌}
use Rattle.font_bytes.specs.Words.{word}
use Rattle.font_bytes.specs.Records.{records}
use Rattle.font_common.specs.Words.{words_at}
use Rattle.font_common.proofs.words.push_words.Given as goal

-- the numbers so far and those that are left are all
abbrev pub invariant-loop-index : goal.invariant-loop-index
invariant-loop-index l = l.words.items ++ records (word l.table) 2 (l.at + 2 * l.index) (l.count - l.index) ≡ l.initial.words.items ++ words_at l.table l.at l.count

use Rattle.std.proofs.Common.{◌≡◌, ◌+◌, ◌-◌, ◌*◌, ◌++◌, drop}
use Rattle.font_bytes.specs.Words.{word}
use Rattle.font_bytes.specs.Records.{records}
use Rattle.font_common.specs.Rows.{covered_rows, word_row}
use Rattle.font_common.specs.Words.{words_at}
use Rattle.font_common.proofs.words.read_word_rows.Given as goal

-- the rows so far and those of the numbers that are left are all
abbrev pub invariant-loop-index : goal.invariant-loop-index
invariant-loop-index l = l.rows.items ++ covered_rows word_row (drop l.index l.glyphs) (records (word l.table) 2 (l.at + 2 * l.index) (l.count - l.index))
    ≡ covered_rows word_row l.glyphs (words_at l.table l.at l.count)

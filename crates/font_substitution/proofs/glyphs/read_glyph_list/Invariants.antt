use Rattle.std.proofs.Common.{◌≡◌, ◌+◌, ◌*◌, ◌-◌, ◌++◌}
use Rattle.font_bytes.specs.Words.{word}
use Rattle.font_bytes.specs.Records.{records}
use Rattle.font_substitution.proofs.glyphs.read_glyph_list.Given as goal

-- the glyphs so far and those that are left are all
abbrev pub invariant-loop-index : goal.invariant-loop-index
invariant-loop-index l = l.glyphs.items ++ records (word l.table) 2 (l.at + 2 * l.index) (l.count - l.index) ≡ records (word l.table) 2 l.at l.count

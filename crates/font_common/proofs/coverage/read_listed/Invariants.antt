use Rattle.std.proofs.Common.{◌≡◌, ◌+◌, ◌*◌, ◌-◌, ◌++◌}
use Rattle.font_common.specs.Coverage.{glyph_array, never_fall}
use Rattle.font_bytes.specs.Words.{word}
use Rattle.font_bytes.specs.Records.{records}
use Rattle.font_common.proofs.coverage.read_listed.Given as goal

-- the glyphs so far and those that are left are all; the rest never falls exactly where all never fall
abbrev pub invariant-loop-index : goal.invariant-loop-index
invariant-loop-index l = record {
  all : l.glyphs.items ++ records (word l.table) 2 (l.at + 4 + 2 * l.index) (l.count - l.index) ≡ glyph_array l.table (l.at + 4) l.count;
  order : never_fall l.least (records (word l.table) 2 (l.at + 4 + 2 * l.index) (l.count - l.index)) ≡ never_fall 0 (glyph_array l.table (l.at + 4) l.count);
}

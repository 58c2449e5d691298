use Rattle.std.proofs.Common.{◌≡◌, length}
use Rattle.layout_common.specs.Neighbours.{AreKeptBits}
use Rattle.layout_common.proofs.ColumnBits.{HasGlyphs}
use Rattle.layout_common.proofs.columns.add_glyphs.Given as goal

-- the columns of the glyphs in the words so far have the bit
abbrev pub invariant-loop-i : goal.invariant-loop-i
invariant-loop-i l = record {
  size : length l.words.items ≡ length l.fn.words.items;
  kept : AreKeptBits l.fn.words.items l.words.items;
  added : HasGlyphs l.glyphs.words l.words.items l.start l.bit l.i;
}

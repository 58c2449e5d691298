use Rattle.std.proofs.Common.{◌≡◌, length}
use Rattle.layout_common.specs.Subtables.{AreIndexed}
use Rattle.layout_common.proofs.subtables.index.Given as goal

-- as many words as were counted, each with its bits
abbrev pub invariant-loop-at : goal.invariant-loop-at
invariant-loop-at g l = record {
  long : length l.words.items ≡ l.at;
  indexed : AreIndexed g.S.Covers.covers l.items l.words.items;
}

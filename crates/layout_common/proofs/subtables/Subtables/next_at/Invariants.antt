use Rattle.std.proofs.Common.{◌≤◌, ◌-◌, length}
use Rattle.layout_common.proofs.Indexed.{AreSkipped}
use Rattle.layout_common.proofs.subtables.Subtables.next_at.Given as goal

-- no subtable so far can act at the glyph
abbrev pub invariant-loop-at : goal.invariant-loop-at
invariant-loop-at g l = record {
  on : l.from ≤ l.at;
  skipped : AreSkipped g.S.Covers.covers l.self l.glyph l.from l.at;
}

abbrev pub decreases-loop-at : goal.decreases-loop-at
decreases-loop-at g l = length l.self - l.at

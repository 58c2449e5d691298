use Rattle.std.proofs.Common.{◌≤◌, ◌-◌, length}
use Rattle.std.specs.Prelude.{◌&&◌}
use Rattle.layout_common.specs.Neighbours.{may_stand}
use Rattle.layout_common.specs.declared.neighbours.Side.TheVariants.{Before, After}
use Rattle.layout_common.proofs.ColumnBits.{AreLeftOut}
use Rattle.layout_common.proofs.subtables.Subtables.next_between.Given as goal

-- no subtable so far can act at the glyph between the others
abbrev pub invariant-loop-at : goal.invariant-loop-at
invariant-loop-at g l = record {
  on : l.from ≤ l.at;
  skipped : AreLeftOut (λ s. g.S.Covers.covers s l.glyph && may_stand (g.S.Covers.admits s Before) l.before && may_stand (g.S.Covers.admits s After) l.after) l.self l.from l.at;
}

abbrev pub decreases-loop-at : goal.decreases-loop-at
decreases-loop-at g l = length l.self - l.at

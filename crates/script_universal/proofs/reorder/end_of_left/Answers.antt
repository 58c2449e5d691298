use Rattle.script_universal.proofs.LeftRanges.{left_kept, left_reach, other_kept}
use Rattle.script_universal.proofs.reorder.end_of_left.Goals.{then-moves, else-moves}
use Rattle.script_universal.proofs.reorder.end_of_left.Goals as goal

pub loop-i-preserved : goal.loop-i-preserved
loop-i-preserved c = elim c.if-moves.branch [
  | then-moves w ↦ left_kept c.args.glyphs.now c.loop-i.i c.loop-i.end c.if-moves.end (left_reach 1 0 c.args.glyphs.now) _ c.moves.result c.loop-i-test.true c.moves.ensures w.if-moves.true w.end-is c.loop-i.invariant
  | else-moves w ↦ other_kept c.args.glyphs.now c.loop-i.i c.loop-i.end c.if-moves.end (left_reach 1 0 c.args.glyphs.now) _ c.moves.result c.loop-i-test.true c.moves.ensures w.if-moves.false w.end-is c.loop-i.invariant
]

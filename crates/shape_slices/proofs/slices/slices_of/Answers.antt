use Rattle.shape_slices.proofs.Walked.{walk_ends}
use Rattle.shape_slices.proofs.slices.slices_of.Goals as goal

pub returns : goal.returns
returns c = walk_ends c.args.glyphs.now c.args.end c.loop-at.at c.loop-at.slices.items c.loop-at-test.false c.loop-at.invariant

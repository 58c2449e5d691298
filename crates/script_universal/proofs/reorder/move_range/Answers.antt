use Rattle.buffer_core.specs.Sides.{all_glyphs}
use Rattle.script_universal.proofs.LeftRanges.{reach_is, range_stays}
use Rattle.script_universal.proofs.reorder.move_range.Goals as goal

pub returns-then-merged-lt2 : goal.returns-then-merged-lt2
returns-then-merged-lt2 c =
    let r = c.requires in
    range_stays c.args.start c.args.end c.end_of_left-merged.result c.info_slice.result.now c.args.buffer.now r.ready r.ordered r.within c.info_slice.ensures c.end_of_left-merged.ensures.reach c.if-merged-lt2.true

pub move_fronts-requires-clause-last : goal.move_fronts-requires-clause-last
move_fronts-requires-clause-last c = reach_is c.args.start c.args.end c.end_of_left-merged.result c.info_slice.result.now (all_glyphs c.args.buffer.now) c.info_slice.ensures c.end_of_left-merged.ensures.reach

use Rattle.buffer_core.specs.Sides.{all_glyphs}
use Rattle.script_khmer.proofs.KhmerScan.{merged_told}
use Rattle.script_khmer.proofs.runs.move_run.Goals as goal

pub move_fronts-requires-clause-last : goal.move_fronts-requires-clause-last
move_fronts-requires-clause-last c =
    let a = c.args in
    merged_told a.forms a.start a.end a.index c.merged_length-merged.result c.info_slice.result.now (all_glyphs a.buffer.now) c.info_slice.ensures c.merged_length-merged.ensures.reach

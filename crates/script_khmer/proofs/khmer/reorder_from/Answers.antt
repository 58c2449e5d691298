use Rattle.std.proofs.Common.{nat_le}
use Rattle.script_khmer.proofs.KhmerWalk.{run_told}
use Rattle.script_khmer.proofs.khmer.reorder_from.Goals as goal

pub reorder_run-requires-clause-run : goal.reorder_run-requires-clause-run
reorder_run-requires-clause-run c =
    let a = c.args in
    run_told c.opens_forms-forms.result (nat_le a.walk.count 2) a.start a.end a.walk.index c.run_length-run.result c.info_slice.result.now a.buffer.now c.requires.there c.requires.within c.info_slice.ensures c.run_length-run.ensures.count c.run_length-run.ensures.within

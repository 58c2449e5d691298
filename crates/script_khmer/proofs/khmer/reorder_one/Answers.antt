use Rattle.script_khmer.proofs.KhmerWalk.{one_walked}
use Rattle.script_khmer.proofs.khmer.reorder_one.Goals as goal

pub returns-clause-walked : goal.returns-clause-walked
returns-clause-walked c =
    let a = c.args in
    one_walked a.masks.now a.start a.end a.walk.index a.walk.count c.reorder_at-count.result a.buffer.now c.reorder_at-count.new.buffer c.requires.there c.requires.within c.reorder_at-count.ensures.rewritten c.reorder_at-count.ensures.count

use Rattle.std.proofs.Common.{Ok, ap}
use Rattle.buffer_stages.proofs.Front.{front_replaced}
use Rattle.buffer_stages.proofs.walks.replace_front.Goals as goal

pub returns-clause-ok : goal.returns-clause-ok
returns-clause-ok c =
    let r = c.requires in
    let e = c.in_ok-replace_glyphs.ensures in
    let held = ap Ok c.if-not-branch.false in
    front_replaced c.args.count c.args.number c.args.buffer.now c.replace_glyphs.new.self r.open r.there r.some (e.replaced held) (e.origins held)

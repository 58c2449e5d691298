use Rattle.std.proofs.Common.{◌+◌, refl, arith}
use Rattle.buffer_stages.specs.Lemmas.Parts.{move_rewrites}
use Rattle.buffer_stages.specs.Lemmas.Rewritings.{counted}
use Rattle.buffer_stages.proofs.parts.first_to_back.Goals as goal

pub returns : goal.returns
returns c =
    let r = c.requires in
    move_rewrites c.args.start c.args.end c.args.count (c.args.start + c.args.count) c.args.buffer.now c.move_back.new.buffer refl (omega (arith, r.ordered, r.few)) (omega (arith, r.within, counted c.args.buffer.now)) c.move_back.ensures

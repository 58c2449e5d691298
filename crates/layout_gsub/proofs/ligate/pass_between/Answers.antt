use Rattle.layout_gsub.specs.Ligating.{passed_item}
use Rattle.buffer_glyphs.specs.Items.{Item}
use Rattle.std.proofs.Common.{subst}
use Rattle.layout_gsub.specs.Uniting.{IsPassedAs}
use Rattle.layout_gsub.proofs.United.{one_passed}
use Rattle.layout_gsub.proofs.ligate.pass_between.Goals as goal

pub loop-preserved : goal.loop-preserved
loop-preserved c =
    let n = c.args.numbering.now in
    let P : Item → Type 0 = λ x. IsPassedAs x c.loop.buffer c.pass_as.new.buffer in
    one_passed (passed_item n.renumbers n.lig_id n.ended n.own) c.loop.counter c.args.buffer.now c.loop.buffer c.pass_as.new.buffer c.cur.result.now c.cur.ensures c.loop.invariant (subst P c.renumber-info.ensures.item c.in_ok-pass_as.ensures.passed)

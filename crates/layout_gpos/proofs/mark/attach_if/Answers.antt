use Rattle.layout_gpos.proofs.Attached.{both_attached}
use Rattle.layout_gpos.proofs.mark.attach_if.Goals as goal

pub returns : goal.returns
returns c = λ r. both_attached r c.args.back c.in-Some.base c.in-Some-mark.mark c.args.base c.args.mark c.args.buffer.now c.attach.new.buffer c.in-Some.is c.in-Some-mark.is (c.attach.ensures r)

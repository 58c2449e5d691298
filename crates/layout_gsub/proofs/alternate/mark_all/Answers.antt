use Rattle.layout_gsub.proofs.Drawn.{all_marked}
use Rattle.layout_gsub.proofs.alternate.mark_all.Goals as goal

pub returns : goal.returns
returns c = all_marked c.args.buffer.now c.unsafe_to_break_from_outbuffer.new.self c.unsafe_to_break_from_outbuffer.ensures.marked c.unsafe_to_break_from_outbuffer.ensures.origins

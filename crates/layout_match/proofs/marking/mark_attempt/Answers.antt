use Rattle.buffer_stages.proofs.Lemmas.Around.{concat_around}
use Rattle.layout_match.proofs.marking.mark_attempt.Goals as goal

pub returns : goal.returns
returns c = let m = c.unsafe_to_concat_from_outbuffer in concat_around c.args.back c.args.ahead c.idx.result c.out_len.result c.args.buffer.now m.new.self c.idx.ensures c.out_len.ensures c.requires.before m.ensures.marked m.ensures.origins

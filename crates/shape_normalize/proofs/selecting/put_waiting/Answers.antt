use Rattle.shape_normalize.proofs.Select.{one_put}
use Rattle.shape_normalize.proofs.selecting.put_waiting.Goals as goal

pub returns-clause-ok : goal.returns-clause-ok
returns-clause-ok g c = one_put (g.N.Normalizing.normalizer c.args.by.now) c.args.buffer.now c.put_unexpanded.new.buffer c.args.waits c.if-not-waits.false c.in_ok-put_unexpanded.ensures.ok

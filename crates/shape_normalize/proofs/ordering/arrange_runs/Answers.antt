use Rattle.std.proofs.Common.{arith}
use Rattle.shape_normalize.proofs.Runs.{ordering_begun, ordering_more, ordering_done}
use Rattle.shape_normalize.proofs.ordering.arrange_runs.Goals as goal

pub loop-i-init : goal.loop-i-init
loop-i-init g c = ordering_begun (g.N.Normalizing.normalizer c.args.by.now).reorders c.len-count.result c.args.buffer.now c.requires.ready (c.len-count.ensures.count c.requires.ready.closed)

pub loop-i-preserved : goal.loop-i-preserved
loop-i-preserved g c =
    ordering_more (g.N.Normalizing.normalizer c.args.by.now).reorders c.len-count.result c.loop-i.i c.loop-i.start c.in_ok-start.start c.args.buffer.now c.loop-i.buffer c.arrange_next.new.buffer c.loop-i-test.true
    c.loop-i.invariant c.in_ok-start.ensures.ok

pub returns-clause-ok : goal.returns-clause-ok
returns-clause-ok g c =
    let ended = c.loop-i-test.false in
    ordering_done (g.N.Normalizing.normalizer c.args.by.now).reorders c.len-count.result c.loop-i.i c.loop-i.start c.args.buffer.now c.loop-i.buffer c.arrange_run.new.buffer (omega (arith, ended)) c.loop-i.invariant
    c.in_ok-arrange_run.ensures.ok

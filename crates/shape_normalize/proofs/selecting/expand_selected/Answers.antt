use Rattle.std.proofs.Common.{arith}
use Rattle.shape_normalize.proofs.Selections.{selecting_begun, selecting_room, selecting_more, selecting_too_many, selecting_done, last_room, last_selecting_too_many}
use Rattle.shape_normalize.proofs.selecting.expand_selected.Goals as goal
use Rattle.buffer_facts.proofs.Results.{passed_on}

pub loop-init : goal.loop-init
loop-init g c = selecting_begun (g.N.Normalizing.normalizer c.args.by.now) c.args.marks c.args.buffer.now c.requires.open c.requires.there

pub select_next-requires-clause-open : goal.select_next-requires-clause-open
select_next-requires-clause-open g c = c.loop.invariant.is_open

pub select_next-requires-clause-there : goal.select_next-requires-clause-there
select_next-requires-clause-there g c = selecting_room (g.N.Normalizing.normalizer c.args.by.now) c.args.marks c.loop.counter c.loop.waits c.args.buffer.now c.loop.buffer c.loop-test.true c.loop.invariant

pub loop-preserved : goal.loop-preserved
loop-preserved g c = selecting_more (g.N.Normalizing.normalizer c.args.by.now) c.args.marks c.loop.counter c.loop.waits c.in_ok-waits.waits c.args.buffer.now c.loop.buffer c.select_next.new.buffer c.loop-test.true c.loop.invariant c.in_ok-waits.ensures.ok

pub returns-in_err-waits-clause-err : goal.returns-in_err-waits-clause-err
returns-in_err-waits-clause-err g c =
    let e = c.in_err-waits.field-0.0 in
    passed_on c.from_residual.result e _ c.from_residual.ensures.1
    (selecting_too_many (g.N.Normalizing.normalizer c.args.by.now) c.args.marks c.loop.counter c.loop.waits e c.args.buffer.now c.loop.buffer c.loop-test.true c.loop.invariant c.in_err-waits.ensures.err)

pub put_waiting-requires-clause-open : goal.put_waiting-requires-clause-open
put_waiting-requires-clause-open g c = c.loop.invariant.is_open

pub put_waiting-requires-clause-there : goal.put_waiting-requires-clause-there
put_waiting-requires-clause-there g c = last_room (g.N.Normalizing.normalizer c.args.by.now) c.args.marks c.loop.counter c.loop.waits c.args.buffer.now c.loop.buffer c.loop.invariant

pub returns-in_err-put_waiting-clause-err : goal.returns-in_err-put_waiting-clause-err
returns-in_err-put_waiting-clause-err g c =
    let e = c.in_err-put_waiting.field-0.0 in
    let ended = c.loop-test.false in
    passed_on c.from_residual-in_err-put_waiting.result e _ c.from_residual-in_err-put_waiting.ensures.1
    (last_selecting_too_many (g.N.Normalizing.normalizer c.args.by.now) c.args.marks c.loop.counter c.loop.waits e c.args.buffer.now c.loop.buffer (omega (arith, ended)) c.loop.invariant c.in_err-put_waiting.ensures.err)

pub returns-clause-ok : goal.returns-clause-ok
returns-clause-ok g c =
    let ended = c.loop-test.false in
    selecting_done (g.N.Normalizing.normalizer c.args.by.now) c.args.marks c.loop.counter c.loop.waits c.args.buffer.now c.loop.buffer c.put_waiting.new.buffer (omega (arith, ended)) c.loop.invariant c.in_ok-put_waiting.ensures.ok

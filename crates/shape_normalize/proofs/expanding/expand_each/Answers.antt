use Rattle.std.proofs.Common.{arith}
use Rattle.buffer_properties.specs.Expanding.{item_expansion}
use Rattle.shape_normalize.proofs.Each.{each_more, each_too_many}
use Rattle.shape_normalize.proofs.expanding.expand_each.Goals as goal
use Rattle.buffer_facts.proofs.Results.{passed_on}

pub expand_current-requires : goal.expand_current-requires
expand_current-requires g c =
    let left = c.loop.invariant.left in
    let lt = c.loop-test.true in
    let le = c.requires.there in
    record { current = record { opened = c.loop.invariant.is_open; current = omega (arith, left, lt, le) } }

pub loop-preserved : goal.loop-preserved
loop-preserved g c =
    let left = c.loop.invariant.left in
    let lt = c.loop-test.true in
    let le = c.requires.there in
    each_more (item_expansion (g.N.Normalizing.normalizer c.args.by.now) c.args.reach) c.args.count c.loop.counter c.args.buffer.now c.loop.buffer c.expand_current.new.buffer c.loop-test.true (omega (arith, left, lt, le)) c.loop.invariant c.in_ok-expand_current.ensures.ok

pub returns-in_err-expand_current-clause-err : goal.returns-in_err-expand_current-clause-err
returns-in_err-expand_current-clause-err g c =
    let e = c.in_err-expand_current.field-0.0 in
    passed_on c.from_residual.result e _ c.from_residual.ensures.1
    (each_too_many (item_expansion (g.N.Normalizing.normalizer c.args.by.now) c.args.reach) c.args.count c.loop.counter e c.args.buffer.now c.loop.buffer c.loop-test.true c.loop.invariant c.in_err-expand_current.ensures.err)

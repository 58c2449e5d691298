use Rattle.std.proofs.Common.{arith}
use Rattle.shape_normalize.proofs.Advance.{advancing_begun, advancing_less, advancing_more, advancing_too_many}
use Rattle.shape_normalize.proofs.expanding.expand_by_rows.Goals as goal
use Rattle.buffer_facts.proofs.Results.{passed_on}

pub loop-known-init : goal.loop-known-init
loop-known-init g c = record { advancing = advancing_begun (g.N.Normalizing.normalizer c.args.by.now) c.args.buffer.now c.requires.open c.requires.given; known = c.requires.known }

pub loop-known-smaller : goal.loop-known-smaller
loop-known-smaller g c =
    let some = c.loop-known-test.true in
    let count = c.lookahead_len.ensures.count in
    advancing_less (g.N.Normalizing.normalizer c.args.by.now) c.loop-known.buffer c.expand_next.new.buffer (omega (arith, some, count)) c.in_ok-expand_next.ensures.ok

pub loop-known-preserved : goal.loop-known-preserved
loop-known-preserved g c = record {
  advancing =
      advancing_more (g.N.Normalizing.normalizer c.args.by.now) c.args.buffer.now c.loop-known.buffer c.expand_next.new.buffer c.loop-known.invariant.advancing c.in_ok-expand_next.ensures.ok;
  known = c.in_ok-expand_next.ensures.known;
}

pub returns-in_err-expand_next-clause-err : goal.returns-in_err-expand_next-clause-err
returns-in_err-expand_next-clause-err g c =
    let e = c.in_err-expand_next.field-0.0 in
    passed_on c.from_residual.result e _ c.from_residual.ensures.1
    (advancing_too_many (g.N.Normalizing.normalizer c.args.by.now) e c.args.buffer.now c.loop-known.buffer c.loop-known.invariant.advancing c.in_err-expand_next.ensures.err)

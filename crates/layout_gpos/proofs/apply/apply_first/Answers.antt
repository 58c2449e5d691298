use Rattle.std.proofs.Common.{refl}
use Rattle.layout_match.specs.Applied.{apply_context_of}
use Rattle.buffer_stages.proofs.Lemmas.Frames.{still_direction}
use Rattle.buffer_stages.proofs.Lemmas.Performed.{passed_all}
use Rattle.buffer_stages.proofs.Lemmas.Firsts.{first_acts, first_passes}
use Rattle.layout_gpos.proofs.apply.apply_first.Goals as goal

pub returns-then-apply_digested-clause-performed : goal.returns-then-apply_digested-clause-performed
returns-then-apply_digested-clause-performed g c =
    let i = c.loop-subtable.invariant in
    let r = c.args.ctx.now.random_state in
    first_acts (λ s d. g.T.Apply.action s d (apply_context_of c.args.ctx.now)) c.args.subtables.now c.loop-subtable.subtable-index c.subtable-item.result c.loop-subtable.buffer.direction c.args.buffer.now.direction r r r c.apply_digested.result c.args.buffer.now c.loop-subtable.buffer c.apply_digested.new.buffer c.loop-subtable-test.true c.subtable-item.is i.passed (still_direction c.args.buffer.now c.loop-subtable.buffer i.passed.still) refl c.if-apply_digested.true (c.apply_digested.ensures.performed r)

pub loop-subtable-preserved : goal.loop-subtable-preserved
loop-subtable-preserved g c =
    let i = c.loop-subtable.invariant in
    let r = c.args.ctx.now.random_state in
    record {
      passed = (first_passes (λ s d. g.T.Apply.action s d (apply_context_of c.args.ctx.now)) c.args.subtables.now c.loop-subtable.subtable-index c.subtable-item.result c.loop-subtable.buffer.direction c.args.buffer.now.direction r r r c.apply_digested.result c.args.buffer.now c.loop-subtable.buffer c.apply_digested.new.buffer c.loop-subtable-test.true c.subtable-item.is i.passed (still_direction c.args.buffer.now c.loop-subtable.buffer i.passed.still) refl c.if-apply_digested.false (c.apply_digested.ensures.performed r)).0;
      kept = c.apply_digested.ensures.kept;
    }

pub returns-clause-performed : goal.returns-clause-performed
returns-clause-performed g c = passed_all (λ s. g.T.Apply.action s c.args.buffer.now.direction (apply_context_of c.args.ctx.now)) c.args.subtables.now c.loop-subtable.subtable-index c.args.ctx.now.random_state c.args.buffer.now c.loop-subtable.buffer c.loop-subtable-test.false c.loop-subtable.invariant.passed

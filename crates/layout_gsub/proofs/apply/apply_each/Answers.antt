use Rattle.std.proofs.Common.{false, sym, subst, ◌∙◌, arith, ℕ}
use Rattle.layout_match.specs.Applied.{apply_context_of}
use Rattle.buffer_stages.specs.Actions.{first_rule}
use Rattle.buffer_stages.specs.Performing.{IsPerformed, cut_with}
use Rattle.buffer_stages.proofs.Lemmas.Performed.{passed_all}
use Rattle.buffer_stages.proofs.Lemmas.Firsts.{first_acts, first_refuses, first_passes}
use Rattle.layout_gsub.proofs.Lemmas.Jumped.{is_there, jumped, jumped_all}
use Rattle.layout_gsub.proofs.apply.apply_each.Goals as goal

pub returns-in_default-clause-performs : goal.returns-in_default-clause-performs
returns-in_default-clause-performs g c =
    let i = c.loop-k.invariant in
    let a = apply_context_of c.args.ctx.now in
    let q = c.args.ctx.now.random_state in
    jumped_all (λ s. g.S.Apply.action s a) c.args.subtables.now c.loop-k.ctx.random_state q c.loop-k.k c.next_at_cursor-next.result c.args.buffer.now c.loop-k.buffer (c.next_at_cursor-next.ensures.passed a q) c.next_at_cursor-next.ensures.on i.passed c.in_default.ensures i.random

pub returns-in-Ok-true-clause-performs : goal.returns-in-Ok-true-clause-performs
returns-in-Ok-true-clause-performs g c =
    let i = c.loop-k.invariant in
    let a = apply_context_of c.args.ctx.now in
    let q = c.args.ctx.now.random_state in
    let n = c.next_at_cursor-next.result in
    let there = is_there c.args.subtables.now n c.in-Some.subtable.now (sym c.in-Some.ensures) in
    let passed = jumped (λ s. g.S.Apply.action s a) c.args.subtables.now q c.loop-k.k n c.args.buffer.now c.loop-k.buffer (c.next_at_cursor-next.ensures.passed a q) c.next_at_cursor-next.ensures.on i.passed in
    first_acts g.S.Apply.action c.args.subtables.now n c.in-Some.subtable.now (apply_context_of c.loop-k.ctx) a c.loop-k.ctx.random_state q c.apply.new.ctx.random_state c.in-Ok-true.field-0 c.args.buffer.now c.loop-k.buffer c.apply.new.buffer there.0 there.1 passed i.context i.random c.in-Ok-true.field-0-test c.in-Ok-true.ensures.performs

pub returns-in-Err-clause-performs : goal.returns-in-Err-clause-performs
returns-in-Err-clause-performs g c =
    let i = c.loop-k.invariant in
    let a = apply_context_of c.args.ctx.now in
    let q = c.args.ctx.now.random_state in
    let n = c.next_at_cursor-next.result in
    let there = is_there c.args.subtables.now n c.in-Some.subtable.now (sym c.in-Some.ensures) in
    let passed = jumped (λ s. g.S.Apply.action s a) c.args.subtables.now q c.loop-k.k n c.args.buffer.now c.loop-k.buffer (c.next_at_cursor-next.ensures.passed a q) c.next_at_cursor-next.ensures.on i.passed in
    first_refuses g.S.Apply.action c.args.subtables.now n c.in-Some.subtable.now (apply_context_of c.loop-k.ctx) a c.loop-k.ctx.random_state q c.apply.new.ctx.random_state c.in-Err.cause c.args.buffer.now c.loop-k.buffer c.apply.new.buffer there.0 there.1 passed i.context i.random c.in-Err.ensures.performs

pub overflow_add-k : goal.overflow_add-k
overflow_add-k g c =
    let there = is_there c.args.subtables.now c.next_at_cursor-next.result c.in-Some.subtable.now (sym c.in-Some.ensures) in
    let less = there.0 in
    let count = c.count-count.ensures in
    let fits = c.count-count.auto in
    omega (arith, less, count, fits)

pub loop-k-preserved : goal.loop-k-preserved
loop-k-preserved g c =
    let i = c.loop-k.invariant in
    let a = apply_context_of c.args.ctx.now in
    let q = c.args.ctx.now.random_state in
    let n = c.next_at_cursor-next.result in
    let there = is_there c.args.subtables.now n c.in-Some.subtable.now (sym c.in-Some.ensures) in
    let passed = jumped (λ s. g.S.Apply.action s a) c.args.subtables.now q c.loop-k.k n c.args.buffer.now c.loop-k.buffer (c.next_at_cursor-next.ensures.passed a q) c.next_at_cursor-next.ensures.on i.passed in
    let p = first_passes g.S.Apply.action c.args.subtables.now n c.in-Some.subtable.now (apply_context_of c.loop-k.ctx) a c.loop-k.ctx.random_state q c.apply.new.ctx.random_state c.in-Ok-false.field-0 c.args.buffer.now c.loop-k.buffer c.apply.new.buffer there.0 there.1 passed i.context i.random c.in-Ok-false.field-0-test c.in-Ok-false.ensures.performs in
    record { passed = p.0; context = c.apply.ensures.context ∙ i.context; random = p.1 }

pub returns-clause-performs : goal.returns-clause-performs
returns-clause-performs g c =
    let i = c.loop-k.invariant in
    let count = c.count-count.ensures in
    let past = c.loop-k-test.false in
    let all = passed_all (λ s. g.S.Apply.action s (apply_context_of c.args.ctx.now)) c.args.subtables.now c.loop-k.k c.args.ctx.now.random_state c.args.buffer.now c.loop-k.buffer (omega (arith, count, past)) i.passed in
    let P : ℕ → Type 0 = λ n. IsPerformed (first_rule (λ s. g.S.Apply.action s (apply_context_of c.args.ctx.now)) c.args.subtables.now (cut_with c.args.ctx.now.random_state c.args.buffer.now)) false c.args.ctx.now.random_state n c.args.buffer.now c.loop-k.buffer in
    subst P (sym i.random) all

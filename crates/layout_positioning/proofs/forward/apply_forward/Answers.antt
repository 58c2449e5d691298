use Rattle.std.proofs.Common.{◌≡◌, ◌<◌, false, length, refl, ap, sym, arith, ◌∙◌}
use Rattle.buffer_common.specs.declared.direction.Direction.{Direction}
use Rattle.buffer_core.specs.Sides.{all_glyphs, items_of}
use Rattle.buffer_core.specs.Moving.{after_move_to}
use Rattle.layout_match.specs.Applied.{apply_context_of}
use Rattle.buffer_stages.proofs.Lemmas.Frames.{still_open}
use Rattle.layout_gpos.proofs.Lemmas.Kept.{kept_same}
use Rattle.layout_match.proofs.Lemmas.Runs.{run_items}
use Rattle.layout_match.proofs.Lemmas.Stages.{stage_refused}
use Rattle.layout_positioning.specs.Lookups.{lookup_action}
use Rattle.layout_positioning.proofs.Over.{first_run, looked_over_done, over_refused, step_and_run, step_and_run_fewer}
use Rattle.layout_positioning.proofs.forward.apply_forward.Goals as goal

pub loop-last-init : goal.loop-last-init
loop-last-init c =
    let s = c.args.buffer.now in
    record {
      underway = first_run (lookup_action c.args.table.now.lookups s.direction (apply_context_of c.args.ctx.now) c.args.lookup.now) c.args.ctx.now.random_state s c.pass_idle.new.buffer c.requires.glyphs.ready (c.pass_idle.ensures.run c.args.table.now.lookups);
      met = c.pass_idle.ensures.met;
      kept = c.new-last.ensures (apply_context_of c.args.ctx.now) (items_of c.pass_idle.new.buffer);
    }

pub loop-last-preserved : goal.loop-last-preserved
loop-last-preserved c =
    let s = c.args.buffer.now in
    let a = apply_context_of c.args.ctx.now in
    let act = λ (d : Direction). lookup_action c.args.table.now.lookups d a c.args.lookup.now in
    let mid = c.apply_next.new.buffer in
    let next = c.pass_idle-in-loop-last.new.buffer in
    let run = c.pass_idle-in-loop-last.ensures.run c.args.table.now.lookups in
    let there : 0 < length c.loop-last.buffer.ahead = omega (arith, c.idx.ensures, c.len.ensures.input, c.loop-last-test.true) in
    record {
      underway = step_and_run act (length (all_glyphs s)) c.args.ctx.now.random_state s c.loop-last.buffer mid next there c.loop-last.invariant.underway c.in_ok-apply_next.ensures.ok run;
      met = c.pass_idle-in-loop-last.ensures.met;
      kept = kept_same a c.apply_next.new.last mid next (run_items (act mid.direction) mid next run) c.in_ok-apply_next.ensures.kept;
    }

pub loop-last-smaller : goal.loop-last-smaller
loop-last-smaller c =
    let act = λ (d : Direction). lookup_action c.args.table.now.lookups d (apply_context_of c.args.ctx.now) c.args.lookup.now in
    let now = c.loop-last.buffer in
    let mid = c.apply_next.new.buffer in
    let there : 0 < length now.ahead = omega (arith, c.idx.ensures, c.len.ensures.input, c.loop-last-test.true) in
    step_and_run_fewer (act now.direction) (act mid.direction) c.args.ctx.now.random_state now mid c.pass_idle-in-loop-last.new.buffer there c.in_ok-apply_next.ensures.ok (c.pass_idle-in-loop-last.ensures.run c.args.table.now.lookups)

pub returns-in_err-apply_next-clause-stage : goal.returns-in_err-apply_next-clause-stage
returns-in_err-apply_next-clause-stage c =
    let s = c.args.buffer.now in
    let cause = c.in_err-apply_next.field-0.0 in
    let there : 0 < length c.loop-last.buffer.ahead = omega (arith, c.idx.ensures, c.len.ensures.input, c.loop-last-test.true) in
    stage_refused c.from_residual.result cause _ _ _ _ _ c.from_residual.ensures.1
    (λ not_memory.
    over_refused (λ d. lookup_action c.args.table.now.lookups d (apply_context_of c.args.ctx.now) c.args.lookup.now) (length (all_glyphs s)) c.args.ctx.now.random_state s c.loop-last.buffer cause c.requires.glyphs.ready refl there c.loop-last.invariant.underway (c.in_err-apply_next.ensures.err not_memory))

pub returns-clause-stage : goal.returns-clause-stage
returns-clause-stage c =
    let s = c.args.buffer.now in
    let now = c.loop-last.buffer in
    let closed : now.is_open ≡ false = still_open s now c.loop-last.invariant.underway.still ∙ c.requires.glyphs.ready.closed in
    let there : c.move_to.new.self ≡ after_move_to 0 now = c.move_to.ensures.moved (c.move_to.ensures.in_place closed) in
    let places : length c.move_to.new.self.positions ≡ length (all_glyphs c.move_to.new.self) = ap length (sym c.pos_slice-after.ensures.same) ∙ c.pos_slice-after.ensures.len in
    let none : length now.ahead ≡ 0 = omega (arith, c.idx.ensures, c.len.ensures.input, c.loop-last-test.false) in
    looked_over_done (lookup_action c.args.table.now.lookups s.direction (apply_context_of c.args.ctx.now) c.args.lookup.now) c.len-end.result (length (all_glyphs s)) c.args.ctx.now.random_state s now c.move_to.new.self c.requires.glyphs.ready refl none c.loop-last.invariant.underway
    c.len-end.ensures.input (c.len-end.ensures.count closed) there places

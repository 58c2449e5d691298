use Rattle.std.proofs.Common.{◌≡◌, ◌<◌, true, false, length, Ok, refl, ap, sym, subst, arith, ◌∙◌}
use Rattle.buffer_glyphs.specs.Items.{strip}
use Rattle.buffer_core.specs.Sides.{all_glyphs, fits_joined, with_output}
use Rattle.layout_match.specs.Applied.{ApplyContext, apply_context_of}
use Rattle.layout_match.specs.Steps.{MeetsGlyph}
use Rattle.layout_substitution.specs.Lookups.{lookup_action}
use Rattle.layout_match.proofs.Lemmas.Passage.{looked_up_done, looked_up_long, looked_up_refused_by}
use Rattle.layout_match.proofs.Lemmas.Runs.{run_items}
use Rattle.layout_match.proofs.Lemmas.Stages.{stage_refused}
use Rattle.layout_substitution.proofs.Idle.{first_run, first_run_too_long, next_run_too_long, step_and_run, step_and_run_fewer}
use Rattle.layout_substitution.proofs.Skipped.{zero_synced}
use Rattle.layout_substitution.proofs.forward.apply_forward.Goals as goal

pub loop-ctx-init : goal.loop-ctx-init
loop-ctx-init c =
    let ctx = c.args.ctx.now in
    let act = lookup_action c.args.table.now.lookups (apply_context_of ctx) c.args.lookup.now in
    let run = c.in_ok-pass_idle.ensures.ok c.args.table.now.lookups in
    record {
      underway = first_run act ctx.random_state c.args.buffer.now c.clear_output.new.self c.pass_idle.new.buffer c.in_ok-clear_output.ensures.after run;
      context = refl;
      met = c.in_ok-pass_idle.ensures.met;
      unchanged = λ _. run_items act c.clear_output.new.self c.pass_idle.new.buffer run ∙ ap strip c.in_ok-clear_output.ensures.kept;
    }

pub loop-ctx-preserved : goal.loop-ctx-preserved
loop-ctx-preserved c =
    let ctx = c.args.ctx.now in
    let s = c.args.buffer.now in
    let act = λ (a : ApplyContext). lookup_action c.args.table.now.lookups a c.args.lookup.now in
    let mid = c.apply_next.new in
    let next = c.pass_idle-in-loop-ctx.new.buffer in
    let context = c.apply_next.ensures.context ∙ c.loop-ctx.invariant.context in
    let run = c.in_ok-pass_idle-2.ensures.ok c.args.table.now.lookups in
    let M : ApplyContext → Type 0 = λ k. MeetsGlyph k 0 next in
    let there : 0 < length c.loop-ctx.buffer.ahead = omega (arith, c.idx.ensures, c.len.ensures.input, c.loop-ctx-test.true) in
    record {
      underway =
          step_and_run act (apply_context_of c.loop-ctx.ctx) (apply_context_of ctx) (apply_context_of mid.ctx) (length (all_glyphs s)) ctx.random_state c.loop-ctx.ctx.random_state mid.ctx.random_state (with_output s) c.loop-ctx.buffer mid.buffer next there c.loop-ctx.invariant.context context
          c.loop-ctx.invariant.underway c.in_ok-acted.ensures.ok run;
      context = context;
      met = subst M context c.in_ok-pass_idle-2.ensures.met;
      unchanged = λ none. run_items (act (apply_context_of mid.ctx)) mid.buffer next run ∙ c.in_ok-acted.ensures.unchanged (ap Ok none) ∙ c.loop-ctx.invariant.unchanged (c.in_ok-acted.ensures.before (ap Ok none));
    }

pub loop-ctx-smaller : goal.loop-ctx-smaller
loop-ctx-smaller c =
    let act = λ (a : ApplyContext). lookup_action c.args.table.now.lookups a c.args.lookup.now in
    let mid = c.apply_next.new in
    let there : 0 < length c.loop-ctx.buffer.ahead = omega (arith, c.idx.ensures, c.len.ensures.input, c.loop-ctx-test.true) in
    step_and_run_fewer (act (apply_context_of c.loop-ctx.ctx)) (act (apply_context_of mid.ctx)) c.loop-ctx.ctx.random_state mid.ctx.random_state c.loop-ctx.buffer mid.buffer c.pass_idle-in-loop-ctx.new.buffer there c.in_ok-acted.ensures.ok (c.in_ok-pass_idle-2.ensures.ok c.args.table.now.lookups)

pub returns-in_err-pass_idle-2-clause-stage : goal.returns-in_err-pass_idle-2-clause-stage
returns-in_err-pass_idle-2-clause-stage c =
    let ctx = c.args.ctx.now in
    let s = c.args.buffer.now in
    let act = λ (a : ApplyContext). lookup_action c.args.table.now.lookups a c.args.lookup.now in
    let mid = c.apply_next.new in
    let cause = c.in_err-pass_idle-2.field-0.0 in
    let there : 0 < length c.loop-ctx.buffer.ahead = omega (arith, c.idx.ensures, c.len.ensures.input, c.loop-ctx-test.true) in
    stage_refused c.from_residual-in_err-pass_idle-2.result cause _ _ _ _ _ c.from_residual-in_err-pass_idle-2.ensures.1
    (λ not_memory.
    let long = c.in_err-pass_idle-2.ensures.err not_memory in
    next_run_too_long act (apply_context_of c.loop-ctx.ctx) (apply_context_of ctx) (apply_context_of mid.ctx) ctx.random_state c.loop-ctx.ctx.random_state mid.ctx.random_state s c.loop-ctx.buffer mid.buffer cause there c.loop-ctx.invariant.context (c.apply_next.ensures.context ∙ c.loop-ctx.invariant.context) c.loop-ctx.invariant.underway
    c.in_ok-acted.ensures.ok (long.0, long.1 c.args.table.now.lookups))

pub returns-in_err-pass_idle-clause-stage : goal.returns-in_err-pass_idle-clause-stage
returns-in_err-pass_idle-clause-stage c =
    let ctx = c.args.ctx.now in
    let act = lookup_action c.args.table.now.lookups (apply_context_of ctx) c.args.lookup.now in
    let cause = c.in_err-pass_idle.field-0.0 in
    stage_refused c.from_residual-in_err-pass_idle.result cause _ _ _ _ _ c.from_residual-in_err-pass_idle.ensures.1
    (λ not_memory.
    let long = c.in_err-pass_idle.ensures.err not_memory in
    first_run_too_long act ctx.random_state c.args.buffer.now c.clear_output.new.self cause c.in_ok-clear_output.ensures.after (long.0, long.1 c.args.table.now.lookups))

pub returns-in_err-acted-clause-stage : goal.returns-in_err-acted-clause-stage
returns-in_err-acted-clause-stage c =
    let ctx = c.args.ctx.now in
    let s = c.args.buffer.now in
    let cause = c.in_err-acted.field-0.0 in
    let there : 0 < length c.loop-ctx.buffer.ahead = omega (arith, c.idx.ensures, c.len.ensures.input, c.loop-ctx-test.true) in
    stage_refused c.from_residual-in_err-acted.result cause _ _ _ _ _ c.from_residual-in_err-acted.ensures.1
    (λ not_memory.
    looked_up_refused_by (λ a. lookup_action c.args.table.now.lookups a c.args.lookup.now) (apply_context_of c.loop-ctx.ctx) (apply_context_of ctx) (length (all_glyphs s)) ctx.random_state c.loop-ctx.ctx.random_state s (with_output s) c.loop-ctx.buffer cause refl there c.loop-ctx.invariant.context refl c.loop-ctx.invariant.underway (c.in_err-acted.ensures.err not_memory))

pub returns-then-not-branch-clause-stage : goal.returns-then-not-branch-clause-stage
returns-then-not-branch-clause-stage c =
    let ctx = c.args.ctx.now in
    let s = c.args.buffer.now in
    let act = lookup_action c.args.table.now.lookups (apply_context_of ctx) c.args.lookup.now in
    let none : length c.loop-ctx.buffer.ahead ≡ 0 = omega (arith, c.idx.ensures, c.len.ensures.input, c.loop-ctx-test.false) in
    let full : fits_joined c.loop-ctx.buffer ≡ false = sym c.in_ok-sync.ensures.held ∙ c.if-not-branch.true in
    λ not_memory. looked_up_long act (length (all_glyphs s)) ctx.random_state c.loop-ctx.ctx.random_state s c.loop-ctx.buffer c.requires.glyphs.ready refl none c.loop-ctx.invariant.underway full

pub returns-clause-stage : goal.returns-clause-stage
returns-clause-stage c =
    let ctx = c.args.ctx.now in
    let s = c.args.buffer.now in
    let act = lookup_action c.args.table.now.lookups (apply_context_of ctx) c.args.lookup.now in
    let none : length c.loop-ctx.buffer.ahead ≡ 0 = omega (arith, c.idx.ensures, c.len.ensures.input, c.loop-ctx-test.false) in
    let fits : fits_joined c.loop-ctx.buffer ≡ true = sym c.in_ok-sync.ensures.held ∙ c.if-not-branch.false in
    let answer : c.sync.result ≡ Ok true = c.in_ok-sync.was ∙ ap Ok c.if-not-branch.false in
    looked_up_done act (length (all_glyphs s)) ctx.random_state c.loop-ctx.ctx.random_state s c.loop-ctx.buffer c.sync.new.self c.requires.glyphs.ready refl none c.loop-ctx.invariant.underway fits (c.sync.ensures.joined answer)

pub returns-clause-unchanged : goal.returns-clause-unchanged
returns-clause-unchanged c e =
    let none : c.loop-ctx.acted ≡ false = cc in
    ap strip c.sync.ensures.kept ∙ c.loop-ctx.invariant.unchanged none

pub returns-clause-cleared : goal.returns-clause-cleared
returns-clause-cleared c =
    let answer : c.sync.result ≡ Ok true = c.in_ok-sync.was ∙ ap Ok c.if-not-branch.false in
    zero_synced c.loop-ctx.buffer c.sync.new.self (c.sync.ensures.joined answer)

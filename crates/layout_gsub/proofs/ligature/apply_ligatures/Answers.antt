use Rattle.std.proofs.Common.{false, sym, subst, ◌∙◌, ℕ}
use Rattle.layout_tables.specs.Layout.{LigatureTable}
use Rattle.layout_match.specs.Applied.{ApplyContext, apply_context_of}
use Rattle.buffer_stages.specs.Actions.{Action, first_rule}
use Rattle.buffer_stages.specs.Performing.{IsPerformed, cut_with}
use Rattle.buffer_stages.proofs.Lemmas.Performed.{passed_all}
use Rattle.buffer_stages.proofs.Lemmas.Firsts.{first_acts, first_refuses, first_passes}
use Rattle.layout_gsub.specs.Ligating.{ligature_over}
use Rattle.layout_gsub.proofs.Following.{passed_over}
use Rattle.layout_gsub.proofs.ligature.apply_ligatures.Goals as goal

pub returns-in-Ok-true-clause-performs : goal.returns-in-Ok-true-clause-performs
returns-in-Ok-true-clause-performs c =
    let i = c.loop-ligature.invariant in
    let act : LigatureTable → ApplyContext → Action = λ l a. ligature_over a l in
    first_acts act c.args.ligatures.now c.loop-ligature.ligature-index c.ligature-item.result (apply_context_of c.loop-ligature.ctx) (apply_context_of c.args.ctx.now) c.loop-ligature.ctx.random_state c.args.ctx.now.random_state c.apply.new.ctx.random_state c.in-Ok-true.field-0 c.args.buffer.now c.loop-ligature.buffer c.apply.new.buffer c.loop-ligature-test.true c.ligature-item.is i.passed i.context i.random c.in-Ok-true.field-0-test c.in-Ok-true.ensures.performs

pub returns-in-Err-clause-performs : goal.returns-in-Err-clause-performs
returns-in-Err-clause-performs c =
    let i = c.loop-ligature.invariant in
    let act : LigatureTable → ApplyContext → Action = λ l a. ligature_over a l in
    first_refuses act c.args.ligatures.now c.loop-ligature.ligature-index c.ligature-item.result (apply_context_of c.loop-ligature.ctx) (apply_context_of c.args.ctx.now) c.loop-ligature.ctx.random_state c.args.ctx.now.random_state c.apply.new.ctx.random_state c.in-Err.cause c.args.buffer.now c.loop-ligature.buffer c.apply.new.buffer c.loop-ligature-test.true c.ligature-item.is i.passed i.context i.random c.in-Err.ensures.performs

pub loop-ligature-preserved : goal.loop-ligature-preserved
loop-ligature-preserved c =
    let i = c.loop-ligature.invariant in
    let act : LigatureTable → ApplyContext → Action = λ l a. ligature_over a l in
    let p = first_passes act c.args.ligatures.now c.loop-ligature.ligature-index c.ligature-item.result (apply_context_of c.loop-ligature.ctx) (apply_context_of c.args.ctx.now) c.loop-ligature.ctx.random_state c.args.ctx.now.random_state c.apply.new.ctx.random_state c.in-Ok-false.field-0 c.args.buffer.now c.loop-ligature.buffer c.apply.new.buffer c.loop-ligature-test.true c.ligature-item.is i.passed i.context i.random c.in-Ok-false.field-0-test c.in-Ok-false.ensures.performs in
    record { passed = p.0; context = c.apply.ensures.context ∙ i.context; random = p.1 }

pub loop-ligature-preserved-then-not-may_follow : goal.loop-ligature-preserved-then-not-may_follow
loop-ligature-preserved-then-not-may_follow c =
    let i = c.loop-ligature.invariant in
    record {
      passed =
          passed_over (apply_context_of c.args.ctx.now) c.args.ligatures.now c.ligature-item.result c.next_input-next.result c.loop-ligature.ligature-index c.args.ctx.now.random_state c.args.buffer.now c.loop-ligature.buffer c.loop-ligature-test.true c.ligature-item.is
          (sym c.may_follow.ensures ∙ c.if-not-may_follow.true) c.next_input-next.ensures.input c.next_input-next.ensures.unflagged i.passed;
      context = i.context;
      random = i.random;
    }

pub returns-clause-performs : goal.returns-clause-performs
returns-clause-performs c =
    let i = c.loop-ligature.invariant in
    let all = passed_all (ligature_over (apply_context_of c.args.ctx.now)) c.args.ligatures.now c.loop-ligature.ligature-index c.args.ctx.now.random_state c.args.buffer.now c.loop-ligature.buffer c.loop-ligature-test.false i.passed in
    let P : ℕ → Type 0 = λ n. IsPerformed (first_rule (ligature_over (apply_context_of c.args.ctx.now)) c.args.ligatures.now (cut_with c.args.ctx.now.random_state c.args.buffer.now)) false c.args.ctx.now.random_state n c.args.buffer.now c.loop-ligature.buffer in
    subst P (sym i.random) all

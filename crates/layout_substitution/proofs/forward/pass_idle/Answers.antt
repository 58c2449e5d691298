use Rattle.std.proofs.Common.{◌≡◌, true, Ok, refl, ap, sym, ◌∙◌}
use Rattle.layout_match.specs.Applied.{apply_context_of}
use Rattle.layout_match.proofs.Lemmas.Idle.{met_here, met_moved}
use Rattle.layout_substitution.proofs.Idle.{lookup_run, lookup_run_too_long}
use Rattle.layout_substitution.proofs.forward.pass_idle.Goals as goal

pub returns-then-not-branch-clause-err : goal.returns-then-not-branch-clause-err
returns-then-not-branch-clause-err c = λ _. (
  refl,
  λ table. lookup_run_too_long table (apply_context_of c.args.ctx.now) c.args.lookup.now c.run_to_met-count.result c.args.buffer.now c.if-count-eq0.false c.run_to_met-count.ensures.within c.run_to_met-count.ensures.idle c.requires.among_glyphs.opened (sym c.in_ok-next_glyphs.ensures.held ∙ c.if-not-branch.true),
)

pub returns-clause-ok : goal.returns-clause-ok
returns-clause-ok c = λ table.
    let answer : c.next_glyphs.result ≡ Ok true = c.in_ok-next_glyphs.was ∙ ap Ok c.if-not-branch.false in
    lookup_run table (apply_context_of c.args.ctx.now) c.args.lookup.now c.run_to_met-count.result c.args.buffer.now c.next_glyphs.new.self c.run_to_met-count.ensures.within c.run_to_met-count.ensures.idle c.requires.among_glyphs.opened (sym c.in_ok-next_glyphs.ensures.held ∙ c.if-not-branch.false) (c.next_glyphs.ensures.moved answer)

pub returns-then-count-eq0-clause-met : goal.returns-then-count-eq0-clause-met
returns-then-count-eq0-clause-met c = met_here (apply_context_of c.args.ctx.now) c.run_to_met-count.result c.args.buffer.now c.if-count-eq0.true c.run_to_met-count.ensures.met

pub returns-clause-met : goal.returns-clause-met
returns-clause-met c =
    let answer : c.next_glyphs.result ≡ Ok true = c.in_ok-next_glyphs.was ∙ ap Ok c.if-not-branch.false in
    met_moved (apply_context_of c.args.ctx.now) c.run_to_met-count.result c.args.buffer.now c.next_glyphs.new.self c.run_to_met-count.ensures.met (c.next_glyphs.ensures.moved answer)

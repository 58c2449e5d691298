use Rattle.std.proofs.Common.{sym, ◌∙◌, arith}
use Rattle.script_indic_reordering.specs.Sought.{picks}
use Rattle.script_indic_reordering.proofs.Lemmas.Sequences.{last_here, last_none, last_sooner}
use Rattle.script_indic_reordering.proofs.sought.Sought.last_from.Goals as goal

pub returns-then-picks-clause-value : goal.returns-then-picks-clause-value
returns-then-picks-clause-value c =
    let h = c.loop-i.invariant in
    last_here (λ x. picks c.args.self x) c.args.glyphs.now c.args.from c.loop-i.i _ c.loop-i-test.true h.1 (sym c.picks.ensures ∙ c.if-picks.true) h.0

pub loop-i-preserved : goal.loop-i-preserved
loop-i-preserved c =
    let h = c.loop-i.invariant in
    let high = c.loop-i-test.true in
    let le = h.1 in
    (last_sooner (λ x. picks c.args.self x) c.args.glyphs.now c.loop-i.i _ (omega (arith, high)) h.1 (sym c.picks.ensures ∙ c.if-picks.false) h.0, omega (arith, le))

pub returns-clause-value : goal.returns-clause-value
returns-clause-value c =
    let low = c.loop-i-test.false in
    last_none (λ x. picks c.args.self x) c.args.glyphs.now c.args.from c.loop-i.i (omega (arith, low)) c.loop-i.invariant.0

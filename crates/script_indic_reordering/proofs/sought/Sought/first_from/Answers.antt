use Rattle.std.proofs.Common.{sym, ◌∙◌, arith}
use Rattle.script_indic_reordering.specs.Sought.{picks}
use Rattle.script_indic_reordering.proofs.Lemmas.Sequences.{first_here, first_later}
use Rattle.script_indic_reordering.proofs.sought.Sought.first_from.Goals as goal

pub returns-then-picks-clause-value : goal.returns-then-picks-clause-value
returns-then-picks-clause-value c = first_here (λ x. picks c.args.self x) c.args.glyphs.now c.loop-i.i _ _ c.loop-i-test.true (sym c.picks.ensures ∙ c.if-picks.true) c.loop-i.invariant.0

pub loop-i-preserved : goal.loop-i-preserved
loop-i-preserved c =
    let le = c.loop-i.invariant.1 in
    (first_later (λ x. picks c.args.self x) c.args.glyphs.now c.loop-i.i _ _ c.loop-i-test.true (sym c.picks.ensures ∙ c.if-picks.false) c.loop-i.invariant.0, omega (arith, le))

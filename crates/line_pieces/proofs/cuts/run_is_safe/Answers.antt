use Rattle.std.proofs.Common.{arith, sym, ◌∙◌}
use Rattle.line_pieces.specs.Steps.{text_steps}
use Rattle.line_pieces.proofs.TextOrder.{text_short}
use Rattle.line_pieces.proofs.Walks.{run_goes_on, run_over}
use Rattle.line_pieces.proofs.cuts.run_is_safe.Goals as goal

pub loop-i-preserved : goal.loop-i-preserved
loop-i-preserved c =
    sym (run_goes_on c.args.byte c.loop-i.i c.loop-i.found (text_steps c.args.direction c.args.glyphs.now) c.step_at-step.result c.step_at-step.ensures.step (omega arith) c.if-step.false) ∙ c.loop-i.invariant

pub returns : goal.returns
returns c =
    let ss = text_steps c.args.direction c.args.glyphs.now in
    let short = text_short c.args.direction c.args.glyphs.now in
    sym (run_over c.args.byte c.loop-i.i c.loop-i.found ss (omega arith)) ∙ c.loop-i.invariant

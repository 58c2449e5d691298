use Rattle.std.proofs.Common.{◌≡◌, Err, subst}
use Rattle.buffer_core.specs.Readings.{Follows}
use Rattle.buffer_core.specs.Segment.{after_guess_segment_properties}
use Rattle.buffer_core.specs.Sides.{state_of}
use Rattle.shape_pipeline.specs.Shaping.{Shaping}
use Rattle.shape_pipeline.specs.Shaped.{text_reading}
use Rattle.shell_run.proofs.PlanLemmas.{as_planned}
use Rattle.shell_run.proofs.Unshaped.{refused_as}
use Rattle.shell_run.proofs.shape.shape_planned.Goals as goal

pub returns-in-Ok-clause-ok : goal.returns-in-Ok-clause-ok
returns-in-Ok-clause-ok c =
    let run = state_of (after_guess_segment_properties c.args.text) in
    let P : Shaping → Type 0 = λ p. Follows (text_reading p run) run (state_of c.in-Ok.glyphs) in
    subst P (as_planned c.args.options.now c.args.input.now c.args.plan.now c.args.text c.requires) c.in-Ok.ensures.ok

pub returns-in-Err-clause-refused : goal.returns-in-Err-clause-refused
returns-in-Err-clause-refused c =
    let run = state_of (after_guess_segment_properties c.args.text) in
    let P : Shaping → Type 0 = λ p. text_reading p run ≡ Err c.in-Err.fault.cause in
    refused_as _ c.in-Err.fault.cause c.from.result c.from.ensures
    (λ not_memory. subst P (as_planned c.args.options.now c.args.input.now c.args.plan.now c.args.text c.requires) (c.in-Err.ensures.refused not_memory))

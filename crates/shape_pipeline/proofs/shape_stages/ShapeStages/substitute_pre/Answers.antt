use Rattle.std.proofs.Common.{refl}
use Rattle.shape_pipeline.proofs.Classed.{classed_followed, classed_refused}
use Rattle.shape_pipeline.proofs.Phases.{stage_refused}
use Rattle.shape_pipeline.proofs.shape_stages.ShapeStages.substitute_pre.Goals as goal

pub returns-clause-stage : goal.returns-clause-stage
returns-clause-stage g c =
    classed_followed _ c.args.buffer.now c.recategorize_marks.new.buffer c.map_classed_glyphs.new.buffer c.synthesize_classes.new.buffer c.substitute.new.buffer refl c.recategorize_marks.ensures c.map_classed_glyphs.ensures.stage c.synthesize_classes.ensures c.in_ok-substitute.ensures

pub returns-in_err-substitute-clause-stage : goal.returns-in_err-substitute-clause-stage
returns-in_err-substitute-clause-stage g c =
    stage_refused c.from_residual.result c.in_err-substitute.field-0.0 _ _ _ c.from_residual.ensures.1 (λ not_memory. classed_refused _ c.args.buffer.now c.recategorize_marks.new.buffer c.map_classed_glyphs.new.buffer c.synthesize_classes.new.buffer c.in_err-substitute.field-0.0 refl c.recategorize_marks.ensures c.map_classed_glyphs.ensures.stage c.synthesize_classes.ensures (c.in_err-substitute.ensures not_memory))

pub returns-clause-numbers : goal.returns-clause-numbers
returns-clause-numbers g c = c.in_ok-substitute.ensures.numbers (c.synthesize_classes.ensures.numbers c.map_classed_glyphs.ensures.numbers)

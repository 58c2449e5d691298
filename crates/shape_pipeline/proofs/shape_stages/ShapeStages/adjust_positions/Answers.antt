use Rattle.std.proofs.Common.{refl}
use Rattle.shape_pipeline.proofs.Phases.{adjusted_done, adjusted_refused, glyph_stage_refused}
use Rattle.shape_pipeline.proofs.shape_stages.ShapeStages.adjust_positions.Goals as goal

pub returns : goal.returns
returns g c =
    adjusted_done _ c.args.buffer.now c.zero_marks.new.buffer c.position_by_plan.new.buffer c.zero_marks-2.new.buffer refl c.zero_marks.ensures c.in_ok-position_by_plan.ensures c.zero_marks-2.ensures

pub returns-in_err-position_by_plan : goal.returns-in_err-position_by_plan
returns-in_err-position_by_plan g c =
    glyph_stage_refused c.from_residual.result c.in_err-position_by_plan.field-0.0 _ _ _ c.from_residual.ensures.1 (λ not_memory. adjusted_refused _ c.args.buffer.now c.zero_marks.new.buffer c.in_err-position_by_plan.field-0.0 refl c.zero_marks.ensures (c.in_err-position_by_plan.ensures not_memory))

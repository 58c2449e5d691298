use Rattle.shape_pipeline.proofs.Phases.{line_ended}
use Rattle.shape_pipeline.proofs.shape_stages.ShapeStages.end_positions.Goals as goal

pub returns : goal.returns
returns g c =
    line_ended _ c.args.buffer.now c.zero_ignorables.new.buffer c.position_finish_offsets.new.buffer c.position_marks_by_plan.new.buffer c.draw.new.buffer c.zero_ignorables.ensures c.position_finish_offsets.ensures c.position_marks_by_plan.ensures c.draw.ensures

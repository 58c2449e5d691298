use Rattle.std.proofs.Common.{refl}
use Rattle.shape_pipeline.proofs.Phases.{positioned_done, positioned_refused, glyph_stage_refused}
use Rattle.shape_pipeline.proofs.shape_stages.ShapeStages.position.Goals as goal

pub returns : goal.returns
returns g c =
    positioned_done _ c.args.buffer.now c.begin_positions.new.buffer c.adjust_positions.new.buffer c.end_positions.new.buffer refl c.begin_positions.ensures c.in_ok-adjust_positions.ensures c.end_positions.ensures

pub returns-in_err-adjust_positions : goal.returns-in_err-adjust_positions
returns-in_err-adjust_positions g c =
    glyph_stage_refused c.from_residual.result c.in_err-adjust_positions.field-0.0 _ _ _ c.from_residual.ensures.1 (λ not_memory. positioned_refused _ c.args.buffer.now c.begin_positions.new.buffer c.in_err-adjust_positions.field-0.0 refl c.begin_positions.ensures (c.in_err-adjust_positions.ensures not_memory))

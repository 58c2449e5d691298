use Rattle.std.proofs.Common.{refl}
use Rattle.shape_pipeline.proofs.Phases.{ended_done, ended_refused, glyph_stage_refused}
use Rattle.shape_pipeline.proofs.shape_stages.ShapeStages.end_text.Goals as goal

pub returns-clause-stage : goal.returns-clause-stage
returns-clause-stage g c =
    ended_done _ c.args.buffer.now c.deal_with_variation_selectors.new.buffer c.hide_ignorables.new.buffer c.postprocess_glyphs.new.buffer c.propagate_flags.new.buffer c.leave.new.buffer refl c.deal_with_variation_selectors.ensures c.hide_ignorables.ensures c.in_ok-postprocess_glyphs.ensures c.propagate_flags.ensures c.leave.ensures.stage

pub returns-in_err-postprocess_glyphs-clause-stage : goal.returns-in_err-postprocess_glyphs-clause-stage
returns-in_err-postprocess_glyphs-clause-stage g c =
    glyph_stage_refused c.from_residual.result c.in_err-postprocess_glyphs.field-0.0 _ _ _ c.from_residual.ensures.1 (λ not_memory. ended_refused _ c.args.buffer.now c.deal_with_variation_selectors.new.buffer c.hide_ignorables.new.buffer c.in_err-postprocess_glyphs.field-0.0 refl c.deal_with_variation_selectors.ensures c.hide_ignorables.ensures (c.in_err-postprocess_glyphs.ensures not_memory))

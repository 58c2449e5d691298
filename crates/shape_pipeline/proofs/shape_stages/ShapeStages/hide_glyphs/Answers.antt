use Rattle.std.proofs.Common.{refl}
use Rattle.shape_pipeline.proofs.Budget.{hidden_done, hidden_refused}
use Rattle.shape_pipeline.proofs.Phases.{glyph_stage_refused}
use Rattle.shape_pipeline.proofs.shape_stages.ShapeStages.hide_glyphs.Goals as goal

pub returns : goal.returns
returns g c =
    hidden_done _ c.args.buffer.now c.deal_with_variation_selectors.new.buffer c.hide_ignorables.new.buffer c.postprocess_glyphs.new.buffer c.propagate_flags.new.buffer refl c.deal_with_variation_selectors.ensures c.hide_ignorables.ensures c.in_ok-postprocess_glyphs.ensures c.propagate_flags.ensures

pub returns-in_err-postprocess_glyphs : goal.returns-in_err-postprocess_glyphs
returns-in_err-postprocess_glyphs g c =
    glyph_stage_refused c.from_residual.result c.in_err-postprocess_glyphs.field-0.0 _ _ _ c.from_residual.ensures.1 (λ not_memory. hidden_refused _ c.args.buffer.now c.deal_with_variation_selectors.new.buffer c.hide_ignorables.new.buffer c.in_err-postprocess_glyphs.field-0.0 refl c.deal_with_variation_selectors.ensures c.hide_ignorables.ensures (c.in_err-postprocess_glyphs.ensures not_memory))

use Rattle.std.proofs.Common.{refl}
use Rattle.shape_pipeline.proofs.Phases.{masks_followed, masks_refused, stage_refused}
use Rattle.shape_pipeline.proofs.shape_stages.ShapeStages.setup_masks.Goals as goal

pub returns : goal.returns
returns g c =
    masks_followed _ c.args.buffer.now c.setup_masks_fraction.new.buffer c.setup_shaper_masks.new.buffer refl c.setup_masks_fraction.ensures c.in_ok-setup_shaper_masks.ensures

pub returns-in_err-setup_shaper_masks : goal.returns-in_err-setup_shaper_masks
returns-in_err-setup_shaper_masks g c =
    stage_refused c.from_residual.result c.in_err-setup_shaper_masks.field-0.0 _ _ _ c.from_residual.ensures.1 (λ not_memory. masks_refused _ c.args.buffer.now c.setup_masks_fraction.new.buffer c.in_err-setup_shaper_masks.field-0.0 refl c.setup_masks_fraction.ensures (c.in_err-setup_shaper_masks.ensures not_memory))

use Rattle.shape_laws.proofs.BreakLemmas.ThaiTexts.{jamo_masks_keep}
use Rattle.shape_laws.proofs.breaks.chain_laws.law_jamo_masks_keep_broken.Goals as goal

pub returns : goal.returns
returns c = jamo_masks_keep

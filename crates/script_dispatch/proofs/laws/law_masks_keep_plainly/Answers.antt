use Rattle.script_dispatch.specs.Lemmas.Keeping.Masks.{masks_keep_plainly}
use Rattle.script_dispatch.proofs.laws.law_masks_keep_plainly.Goals as goal

pub returns : goal.returns
returns c = masks_keep_plainly

use Rattle.std.proofs.Common.{refl}
use Rattle.script_hangul.proofs.Masked.{masked_item}
use Rattle.script_hangul.proofs.masks.with_letter_mask.Goals as goal

pub returns-clause-item : goal.returns-clause-item
returns-clause-item c = masked_item c.args.masks.now c.mask_of.result c.args.glyph.now _ c.mask_of.ensures refl

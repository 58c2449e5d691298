use Rattle.std.proofs.Common.{rules}
use Rattle.script_hangul.specs.Masks.{with_letter_mask}
use Rattle.script_hangul.proofs.masks.setup_masks.Goals as goal

pub returns : goal.returns
returns c = c.map_glyphs.ensures (with_letter_mask c.args.masks.now) (λ g h r. search rules)

use Rattle.shape_text.proofs.Slashes.{DoneTo}
use Rattle.shape_text.proofs.fractions.setup_masks_fraction.Given as goal

abbrev pub invariant-loop-at : goal.invariant-loop-at
invariant-loop-at l = DoneTo l.masks l.at l.fn.buffer l.buffer

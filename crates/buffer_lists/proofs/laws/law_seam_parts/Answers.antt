use Rattle.buffer_lists.proofs.Seams.{seam_parts}
use Rattle.buffer_lists.proofs.laws.law_seam_parts.Goals as goal

pub returns : goal.returns
returns c = seam_parts

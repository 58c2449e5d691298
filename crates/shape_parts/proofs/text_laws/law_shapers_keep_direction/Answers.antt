use Rattle.shape_parts.proofs.Shapers.{shapers_keep_direction}
use Rattle.shape_parts.proofs.text_laws.law_shapers_keep_direction.Goals as goal

pub returns : goal.returns
returns c = shapers_keep_direction

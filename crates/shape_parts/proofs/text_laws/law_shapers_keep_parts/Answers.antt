use Rattle.shape_parts.proofs.Texts.{shapers_keep_parts}
use Rattle.shape_parts.proofs.text_laws.law_shapers_keep_parts.Goals as goal

pub returns : goal.returns
returns c = shapers_keep_parts

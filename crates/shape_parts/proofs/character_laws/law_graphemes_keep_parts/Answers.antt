use Rattle.shape_parts.proofs.Graphemes.{graphemes_keep_parts}
use Rattle.shape_parts.proofs.character_laws.law_graphemes_keep_parts.Goals as goal

pub returns : goal.returns
returns c = graphemes_keep_parts

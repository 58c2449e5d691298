use Rattle.shape_parts.proofs.Graphemes.{graphemes_keep_fall}
use Rattle.shape_parts.proofs.character_laws.law_graphemes_keep_fall.Goals as goal

pub returns : goal.returns
returns c = graphemes_keep_fall

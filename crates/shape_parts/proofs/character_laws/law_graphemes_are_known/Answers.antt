use Rattle.shape_parts.proofs.Graphemes.{graphemes_are_known}
use Rattle.shape_parts.proofs.character_laws.law_graphemes_are_known.Goals as goal

pub returns : goal.returns
returns c = graphemes_are_known

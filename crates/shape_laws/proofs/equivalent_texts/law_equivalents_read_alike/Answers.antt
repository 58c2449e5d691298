use Rattle.shape_laws.proofs.Alike.{equivalents_read_alike}
use Rattle.shape_laws.proofs.equivalent_texts.law_equivalents_read_alike.Goals as goal

pub returns : goal.returns
returns c = equivalents_read_alike

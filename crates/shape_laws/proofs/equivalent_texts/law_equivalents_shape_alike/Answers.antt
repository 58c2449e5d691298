use Rattle.shape_laws.proofs.Alike.{equivalents_shape_alike}
use Rattle.shape_laws.proofs.equivalent_texts.law_equivalents_shape_alike.Goals as goal

pub returns : goal.returns
returns c = equivalents_shape_alike

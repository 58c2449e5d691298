use Rattle.shape_laws.proofs.Alike.{equivalents_look_alike}
use Rattle.shape_laws.proofs.equivalent_texts.law_equivalents_look_alike.Goals as goal

pub returns : goal.returns
returns c = equivalents_look_alike

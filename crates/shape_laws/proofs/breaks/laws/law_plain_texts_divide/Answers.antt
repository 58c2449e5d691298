use Rattle.shape_laws.proofs.BreakLemmas.Plain.{plain_texts_divide}
use Rattle.shape_laws.proofs.breaks.laws.law_plain_texts_divide.Goals as goal

pub returns : goal.returns
returns c = plain_texts_divide

use Rattle.shape_laws.proofs.BreakLemmas.Scripts.{arabic_texts_divide}
use Rattle.shape_laws.proofs.breaks.chain_laws.law_arabic_texts_divide.Goals as goal

pub returns : goal.returns
returns c = arabic_texts_divide

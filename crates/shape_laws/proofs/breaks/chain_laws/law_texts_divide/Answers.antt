use Rattle.shape_laws.proofs.BreakLemmas.Chain.{texts_divide}
use Rattle.shape_laws.proofs.breaks.chain_laws.law_texts_divide.Goals as goal

pub returns : goal.returns
returns c = texts_divide

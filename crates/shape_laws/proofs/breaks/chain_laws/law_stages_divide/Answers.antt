use Rattle.shape_laws.proofs.BreakLemmas.Chain.{stages_divide}
use Rattle.shape_laws.proofs.breaks.chain_laws.law_stages_divide.Goals as goal

pub returns : goal.returns
returns c = stages_divide

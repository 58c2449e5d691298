use Rattle.shape_laws.proofs.BreakLemmas.Scripts.{characters_divide}
use Rattle.shape_laws.proofs.breaks.chain_laws.law_characters_divide.Goals as goal

pub returns : goal.returns
returns c = characters_divide

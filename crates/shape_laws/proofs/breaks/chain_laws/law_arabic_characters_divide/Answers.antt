use Rattle.shape_laws.proofs.BreakLemmas.Scripts.{arabic_characters_divide}
use Rattle.shape_laws.proofs.breaks.chain_laws.law_arabic_characters_divide.Goals as goal

pub returns : goal.returns
returns c = arabic_characters_divide

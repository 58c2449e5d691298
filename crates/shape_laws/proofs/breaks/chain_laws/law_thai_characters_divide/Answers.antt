use Rattle.shape_laws.proofs.BreakLemmas.ThaiApart.{thai_characters_divide}
use Rattle.shape_laws.proofs.breaks.chain_laws.law_thai_characters_divide.Goals as goal

pub returns : goal.returns
returns c = thai_characters_divide

use Rattle.shape_laws.proofs.BreakLemmas.ThaiTexts.{thai_texts_divide}
use Rattle.shape_laws.proofs.breaks.chain_laws.law_thai_texts_divide.Goals as goal

pub returns : goal.returns
returns c = thai_texts_divide

use Rattle.shape_laws.proofs.BreakLemmas.HangulTexts.{hangul_texts_divide}
use Rattle.shape_laws.proofs.breaks.chain_laws.law_hangul_texts_divide.Goals as goal

pub returns : goal.returns
returns c = hangul_texts_divide

use Rattle.shape_laws.proofs.BreakLemmas.HangulApart.{hangul_characters_divide}
use Rattle.shape_laws.proofs.breaks.chain_laws.law_hangul_characters_divide.Goals as goal

pub returns : goal.returns
returns c = hangul_characters_divide

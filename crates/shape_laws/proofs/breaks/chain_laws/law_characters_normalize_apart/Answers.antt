use Rattle.shape_laws.proofs.BreakLemmas.Raw.{raw_apart}
use Rattle.shape_laws.proofs.breaks.chain_laws.law_characters_normalize_apart.Goals as goal

pub returns : goal.returns
returns c = raw_apart

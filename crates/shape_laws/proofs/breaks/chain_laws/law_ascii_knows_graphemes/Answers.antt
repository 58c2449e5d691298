use Rattle.shape_laws.proofs.BreakLemmas.Known.{ascii_knows_graphemes}
use Rattle.shape_laws.proofs.breaks.chain_laws.law_ascii_knows_graphemes.Goals as goal

pub returns : goal.returns
returns c = ascii_knows_graphemes

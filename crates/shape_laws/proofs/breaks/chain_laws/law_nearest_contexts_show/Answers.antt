use Rattle.shape_laws.proofs.BreakLemmas.Contexts.{nearest_show}
use Rattle.shape_laws.proofs.breaks.chain_laws.law_nearest_contexts_show.Goals as goal

pub returns : goal.returns
returns c = nearest_show

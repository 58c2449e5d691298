use Rattle.layout_laws.proofs.BreakLemmas.PositionStages.{positioning_starts}
use Rattle.layout_laws.proofs.breaks.positioning_laws.law_positioning_starts.Goals as goal

pub returns : goal.returns
returns c = positioning_starts

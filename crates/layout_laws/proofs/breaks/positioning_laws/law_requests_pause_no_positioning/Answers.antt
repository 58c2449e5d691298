use Rattle.layout_laws.proofs.BreakLemmas.PositionStages.{requests_pause_no_positioning}
use Rattle.layout_laws.proofs.breaks.positioning_laws.law_requests_pause_no_positioning.Goals as goal

pub returns : goal.returns
returns c = requests_pause_no_positioning

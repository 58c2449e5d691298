use Rattle.layout_laws.proofs.BreakLemmas.PositionsInOrder.{cleared_links_lead_inside}
use Rattle.layout_laws.proofs.breaks.position_laws.law_cleared_links_lead_inside.Goals as goal

pub returns : goal.returns
returns c = cleared_links_lead_inside

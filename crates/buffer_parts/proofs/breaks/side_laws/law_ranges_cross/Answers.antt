use Rattle.buffer_parts.proofs.BreakLemmas.Crossing.{ranges_cross}
use Rattle.buffer_parts.proofs.breaks.side_laws.law_ranges_cross.Goals as goal

pub returns : goal.returns
returns c = ranges_cross

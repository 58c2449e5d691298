use Rattle.buffer_parts.proofs.BreakLemmas.Events.{lossless_in_turn}
use Rattle.buffer_parts.proofs.breaks.laws.law_lossless_in_turn.Goals as goal

pub returns : goal.returns
returns c = lossless_in_turn

use Rattle.buffer_parts.proofs.BreakLemmas.Concats.{concats_are_apart}
use Rattle.buffer_parts.proofs.breaks.laws.law_concats_are_apart.Goals as goal

pub returns : goal.returns
returns c = concats_are_apart

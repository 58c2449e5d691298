use Rattle.buffer_parts.proofs.BreakLemmas.Division.{items_are_divisible}
use Rattle.buffer_parts.proofs.breaks.fragment_laws.law_items_are_divisible.Goals as goal

pub returns : goal.returns
returns c = items_are_divisible

use Rattle.buffer_parts.specs.Lemmas.Keeping.{kept_in_turn}
use Rattle.buffer_parts.proofs.keeping_laws.law_kept_in_turn.Goals as goal

pub returns : goal.returns
returns c = kept_in_turn

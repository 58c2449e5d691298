use Rattle.shape_laws.proofs.BreakLemmas.Scripts.{characters_are_shown}
use Rattle.shape_laws.proofs.breaks.chain_laws.law_characters_are_shown.Goals as goal

pub returns : goal.returns
returns c = characters_are_shown

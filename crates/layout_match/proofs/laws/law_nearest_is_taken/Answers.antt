use Rattle.layout_match.proofs.Law.{nearest_taken}
use Rattle.layout_match.proofs.laws.law_nearest_is_taken.Goals as goal

pub returns : goal.returns
returns c = nearest_taken

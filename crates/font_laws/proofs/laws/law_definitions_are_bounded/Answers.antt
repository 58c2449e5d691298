use Rattle.font_laws.proofs.Bounds.{definitions_are_bounded}
use Rattle.font_laws.proofs.laws.law_definitions_are_bounded.Goals as goal

pub returns : goal.returns
returns c = definitions_are_bounded

use Rattle.shape_parts.proofs.Texts.{starts_rise}
use Rattle.shape_parts.proofs.text_laws.law_starts_rise.Goals as goal

pub returns : goal.returns
returns c = starts_rise

use Rattle.shape_parts.proofs.Glyphs.{advances_stay}
use Rattle.shape_parts.proofs.position_laws.law_advances_stay_in_line.Goals as goal

pub returns : goal.returns
returns c = advances_stay

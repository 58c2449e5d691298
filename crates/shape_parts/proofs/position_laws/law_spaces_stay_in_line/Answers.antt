use Rattle.shape_parts.proofs.Glyphs.{spaces_stay}
use Rattle.shape_parts.proofs.position_laws.law_spaces_stay_in_line.Goals as goal

pub returns : goal.returns
returns c = spaces_stay

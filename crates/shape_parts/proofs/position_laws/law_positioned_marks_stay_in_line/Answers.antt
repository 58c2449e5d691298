use Rattle.shape_parts.proofs.Glyphs.{positioned_marks_stay}
use Rattle.shape_parts.proofs.position_laws.law_positioned_marks_stay_in_line.Goals as goal

pub returns : goal.returns
returns c = positioned_marks_stay

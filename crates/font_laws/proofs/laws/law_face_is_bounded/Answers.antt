use Rattle.font_laws.proofs.Bounds.{faces_are_bounded}
use Rattle.font_laws.proofs.laws.law_face_is_bounded.Goals as goal

pub returns : goal.returns
returns c = faces_are_bounded

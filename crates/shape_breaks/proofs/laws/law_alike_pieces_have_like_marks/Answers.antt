use Rattle.shape_breaks.proofs.Alike.{alike_pieces}
use Rattle.shape_breaks.proofs.laws.law_alike_pieces_have_like_marks.Goals as goal

pub returns : goal.returns
returns c = alike_pieces

use Rattle.line_pieces.proofs.Alone.{own_lines_look}
use Rattle.line_pieces.proofs.laws.law_own_lines_look_alike.Goals as goal

pub returns : goal.returns
returns c = own_lines_look c.law_own_lines_are_shaped_alone.ensures c.law_texts_read_alike.ensures

use Rattle.line_pieces.proofs.Alone.{own_lines}
use Rattle.line_pieces.proofs.laws.law_own_lines_are_shaped_alone.Goals as goal

pub returns : goal.returns
returns c = own_lines c.law_safe_breaks.ensures c.law_texts_keep_numbers.ensures

use Rattle.shape_breaks.proofs.Many.{texts_show_all}
use Rattle.shape_breaks.proofs.laws.law_texts_show_all_pieces.Goals as goal

pub returns : goal.returns
returns c = texts_show_all c.law_safe_breaks.ensures c.law_texts_keep_numbers.ensures

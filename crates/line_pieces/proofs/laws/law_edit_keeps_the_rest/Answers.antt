use Rattle.line_pieces.proofs.EditKept.{edit_front, edit_rest}
use Rattle.line_pieces.proofs.laws.law_edit_keeps_the_rest.Goals as goal

pub returns : goal.returns
returns c = record {
  front = edit_front c.law_safe_breaks.ensures c.law_texts_keep_numbers.ensures;
  rest = edit_rest c.law_safe_breaks.ensures c.law_texts_keep_numbers.ensures c.law_texts_read_alike.ensures;
}

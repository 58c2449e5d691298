use Rattle.shape_normalize.proofs.Compositions.{glyph_written}
use Rattle.shape_normalize.proofs.composing.write_out.Goals as goal

pub returns-clause-ok : goal.returns-clause-ok
returns-clause-ok c =
    glyph_written c.args.at c.out_len-count.result c.args.info c.args.buffer.now c.move_cursor.new.buffer c.write_ahead.new.buffer c.move_cursor-2.new.buffer c.requires.there c.out_len-count.ensures
    c.in_ok-move_cursor.ensures.moved c.write_ahead.ensures c.in_ok-move_cursor-2.ensures.moved

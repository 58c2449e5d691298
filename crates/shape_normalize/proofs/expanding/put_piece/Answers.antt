use Rattle.shape_normalize.proofs.Put.{piece_replaced}
use Rattle.shape_normalize.proofs.expanding.put_piece.Goals as goal

pub returns-then-is_last-clause-ok : goal.returns-then-is_last-clause-ok
returns-then-is_last-clause-ok g c =
    piece_replaced (g.N.Normalizing.normalizer c.args.by.now) c.args.u c.args.is_last c.piece_of-piece.result c.cur.result.now c.output_replacement.result c.args.buffer.now c.output_replacement.new.buffer c.if-is_last.true
    c.cur.ensures c.piece_of-piece.ensures c.output_replacement.ensures.ok

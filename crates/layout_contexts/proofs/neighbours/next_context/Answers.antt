use Rattle.layout_contexts.proofs.Lemmas.LeftOut.{left_out}
use Rattle.layout_contexts.proofs.neighbours.next_context.Goals as goal

pub returns-clause-passed : goal.returns-clause-passed
returns-clause-passed c nest a r beside k x low high at =
    left_out nest a x c.args.beside.now.before c.args.beside.now.after r _ c.args.buffer.now c.cur.result.now c.cur.ensures c.as_glyph-glyph.ensures beside (c.next_between.ensures.skipped k x low high at)

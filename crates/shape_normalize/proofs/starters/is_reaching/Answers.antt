use Rattle.std.proofs.Common.{ap₂, nat_lt, sym, ◌∙◌}
use Rattle.shape_normalize.proofs.Walk.{reaches_past}
use Rattle.shape_normalize.proofs.starters.is_reaching.Goals as goal

pub returns : goal.returns
returns c = λ done x between y ys at.
    ap₂ nat_lt c.mark_class.ensures c.mark_class-2.ensures
    ∙ sym (reaches_past c.args.starter done x between y ys c.prev.result.now c.cur.result.now c.args.buffer.now at (λ e. c.if-out_len-starter.false (c.out_len.ensures ∙ e)) c.prev.ensures c.cur.ensures)

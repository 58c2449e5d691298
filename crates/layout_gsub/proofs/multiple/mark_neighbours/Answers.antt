use Rattle.std.proofs.Common.{ℕ, sym, ap, min, ◌∙◌}
use Rattle.layout_gsub.proofs.Multiplied.{neighbours_passed, neighbours_left}
use Rattle.layout_gsub.proofs.multiple.mark_neighbours.Goals as goal

pub returns-then-asks_breaks : goal.returns-then-asks_breaks
returns-then-asks_breaks c =
    let back = c.min-back.ensures ∙ ap (λ (n : ℕ). min n 1) c.out_len.ensures in
    let ahead = c.min-ahead.ensures ∙ ap (λ (n : ℕ). min n 2) c.lookahead_len.ensures.count in
    neighbours_passed c.min-back.result c.min-ahead.result c.args.buffer.now c.mark_match.new.buffer (sym c.asks_breaks.ensures ∙ c.if-asks_breaks.true) back ahead c.mark_match.ensures

pub returns-else-asks_breaks : goal.returns-else-asks_breaks
returns-else-asks_breaks c = neighbours_left c.args.buffer.now (sym c.asks_breaks.ensures ∙ c.if-asks_breaks.false)

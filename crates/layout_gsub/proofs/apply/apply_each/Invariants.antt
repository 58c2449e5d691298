use Rattle.std.proofs.Common.{◌≡◌, ◌-◌, drop, length}
use Rattle.layout_match.specs.Applied.{apply_context_of}
use Rattle.buffer_stages.proofs.Lemmas.Performed.{ArePassed}
use Rattle.layout_gsub.proofs.apply.apply_each.Given as goal

-- none so far acted
abbrev pub invariant-loop-k : goal.invariant-loop-k
invariant-loop-k g l = record {
  passed : ArePassed (λ s. g.S.Apply.action s (apply_context_of l.fn.ctx)) l.subtables (drop l.k l.subtables) l.fn.ctx.random_state l.fn.buffer l.buffer;
  context : apply_context_of l.ctx ≡ apply_context_of l.fn.ctx;
  random : l.ctx.random_state ≡ l.fn.ctx.random_state;
}

abbrev pub decreases-loop-k : goal.decreases-loop-k
decreases-loop-k g l = length l.subtables - l.k

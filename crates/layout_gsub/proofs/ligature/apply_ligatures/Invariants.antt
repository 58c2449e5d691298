use Rattle.std.proofs.Common.{◌≡◌, drop}
use Rattle.layout_match.specs.Applied.{apply_context_of}
use Rattle.buffer_stages.proofs.Lemmas.Performed.{ArePassed}
use Rattle.layout_gsub.specs.Ligating.{ligature_over}
use Rattle.layout_gsub.proofs.ligature.apply_ligatures.Given as goal

-- none so far acted
abbrev pub invariant-loop-ligature : goal.invariant-loop-ligature
invariant-loop-ligature l = record {
  passed : ArePassed (ligature_over (apply_context_of l.fn.ctx)) l.ligatures (drop l.ligature-index l.ligatures) l.fn.ctx.random_state l.fn.buffer l.buffer;
  context : apply_context_of l.ctx ≡ apply_context_of l.fn.ctx;
  random : l.ctx.random_state ≡ l.fn.ctx.random_state;
}

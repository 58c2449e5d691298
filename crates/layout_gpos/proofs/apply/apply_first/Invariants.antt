use Rattle.std.proofs.Common.{drop}
use Rattle.buffer_core.specs.Sides.{items_of}
use Rattle.layout_match.specs.Applied.{apply_context_of}
use Rattle.buffer_stages.proofs.Lemmas.Performed.{ArePassed}
use Rattle.layout_gpos.specs.Bases.{AreKept}
use Rattle.layout_gpos.proofs.apply.apply_first.Given as goal

-- none so far acted
abbrev pub invariant-loop-subtable : goal.invariant-loop-subtable
invariant-loop-subtable g l = record {
  passed : ArePassed (λ s. g.T.Apply.action s l.fn.buffer.direction (apply_context_of l.ctx)) l.subtables (drop l.subtable-index l.subtables) l.ctx.random_state l.fn.buffer l.buffer;
  kept : AreKept (apply_context_of l.ctx) (items_of l.buffer) l.last;
}

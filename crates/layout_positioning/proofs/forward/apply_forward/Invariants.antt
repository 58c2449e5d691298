use Rattle.std.proofs.Common.{length}
use Rattle.buffer_core.specs.Sides.{all_glyphs, items_of}
use Rattle.layout_gpos.specs.Bases.{AreKept}
use Rattle.layout_match.specs.Applied.{apply_context_of}
use Rattle.layout_match.specs.Steps.{MeetsGlyph}
use Rattle.layout_match.proofs.Lemmas.Passage.{IsUnderway}
use Rattle.layout_positioning.specs.Lookups.{lookup_action}
use Rattle.layout_positioning.proofs.forward.apply_forward.Given as goal

abbrev pub invariant-loop-last : goal.invariant-loop-last
invariant-loop-last l = record {
  underway : IsUnderway (lookup_action l.table.lookups l.fn.buffer.direction (apply_context_of l.ctx) l.lookup) (length (all_glyphs l.fn.buffer)) l.ctx.random_state l.ctx.random_state l.fn.buffer l.buffer;
  met : MeetsGlyph (apply_context_of l.ctx) 0 l.buffer;
  kept : AreKept (apply_context_of l.ctx) (items_of l.buffer) l.last;
}

-- the glyphs ahead
abbrev pub decreases-loop-last : goal.decreases-loop-last
decreases-loop-last l = length l.buffer.ahead

use Rattle.std.proofs.Common.{◌≡◌, false, length}
use Rattle.buffer_core.specs.Sides.{all_glyphs, items_of, with_output}
use Rattle.layout_match.specs.Applied.{apply_context_of}
use Rattle.layout_match.specs.Steps.{MeetsGlyph}
use Rattle.layout_substitution.specs.Lookups.{lookup_action}
use Rattle.layout_match.proofs.Lemmas.Passage.{IsUnderway}
use Rattle.layout_substitution.proofs.forward.apply_forward.Given as goal

abbrev pub invariant-loop-ctx : goal.invariant-loop-ctx
invariant-loop-ctx l = record {
  underway : IsUnderway (lookup_action l.table.lookups (apply_context_of l.fn.ctx) l.lookup) (length (all_glyphs l.fn.buffer)) l.fn.ctx.random_state l.ctx.random_state (with_output l.fn.buffer) l.buffer;
  context : apply_context_of l.ctx ≡ apply_context_of l.fn.ctx;
  met : MeetsGlyph (apply_context_of l.fn.ctx) 0 l.buffer;
  unchanged : l.acted ≡ false → items_of l.buffer ≡ items_of l.fn.buffer;
}

-- the glyphs ahead
abbrev pub decreases-loop-ctx : goal.decreases-loop-ctx
decreases-loop-ctx l = length l.buffer.ahead

use Rattle.std.proofs.Common.{◌≡◌, false, length}
use Rattle.buffer_core.specs.Sides.{all_glyphs, items_of}
use Rattle.layout_match.specs.Applied.{apply_context_of}
use Rattle.layout_substitution.specs.Lookups.{reverse_action}
use Rattle.layout_substitution.proofs.Back.{IsOnItsWayBack}
use Rattle.layout_substitution.proofs.backward.apply_backward.Given as goal

-- so many indices are left
abbrev pub invariant-loop-at : goal.invariant-loop-at
invariant-loop-at l = record {
  on_its_way : IsOnItsWayBack (reverse_action (apply_context_of l.ctx) l.lookup) (length (all_glyphs l.fn.buffer)) l.at l.fn.buffer l.buffer;
  unchanged : l.acted ≡ false → items_of l.buffer ≡ items_of l.fn.buffer;
}

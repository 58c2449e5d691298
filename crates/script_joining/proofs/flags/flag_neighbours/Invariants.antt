use Rattle.std.proofs.Common.{◌≡◌, length}
use Rattle.buffer_core.specs.Sides.{all_glyphs}
use Rattle.script_joining.proofs.Marked.{AreFlagged}
use Rattle.script_joining.proofs.flags.flag_neighbours.Given as goal

abbrev pub invariant-loop-at : goal.invariant-loop-at
invariant-loop-at l = record {
  count : l.count ≡ length (all_glyphs l.initial.buffer);
  flagged : AreFlagged l.initial.buffer l.fn.start l.at l.before l.last l.buffer;
}

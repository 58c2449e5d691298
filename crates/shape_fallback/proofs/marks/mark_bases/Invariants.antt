use Rattle.std.proofs.Common.{◌≡◌, length}
use Rattle.buffer_core.specs.Sides.{all_glyphs}
use Rattle.shape_fallback.proofs.Marked.{AreMarked}
use Rattle.shape_fallback.proofs.marks.mark_bases.Given as goal

abbrev pub invariant-loop-at : goal.invariant-loop-at
invariant-loop-at l = (l.count ≡ length (all_glyphs l.fn.buffer)) × AreMarked l.fn.buffer l.at l.buffer

use Rattle.std.proofs.Common.{◌≡◌, ◌-◌, length}
use Rattle.buffer_core.specs.Sides.{all_glyphs}
use Rattle.shape_text.proofs.Formed.{AreFormed}
use Rattle.shape_text.proofs.clusters.form_each_grapheme.Given as goal

abbrev pub invariant-loop-start : goal.invariant-loop-start
invariant-loop-start l = record {
  count : l.count ≡ length (all_glyphs l.buffer);
  formed : AreFormed l.initial.buffer l.start l.buffer;
}

abbrev pub decreases-loop-start : goal.decreases-loop-start
decreases-loop-start l = l.count - l.start

use Rattle.std.proofs.Common.{◌≡◌, length}
use Rattle.buffer_core.specs.Sides.{all_glyphs}
use Rattle.script_indic_reordering.proofs.Lemmas.Flagged.{AreFlagged}
use Rattle.script_indic_reordering.proofs.words.flag_words.Given as goal

abbrev pub invariant-loop-at : goal.invariant-loop-at
invariant-loop-at l = record {
  count : l.count ≡ length (all_glyphs l.initial.buffer);
  flagged : AreFlagged l.initial.buffer l.at l.buffer;
}

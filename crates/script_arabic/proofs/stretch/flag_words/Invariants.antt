use Rattle.std.proofs.Common.{◌≡◌, length}
use Rattle.buffer_core.specs.Sides.{all_glyphs}
use Rattle.script_arabic.proofs.WordsFlagged.{AreWordsFlagged}
use Rattle.script_arabic.proofs.stretch.flag_words.Given as goal

abbrev pub invariant-loop-at : goal.invariant-loop-at
invariant-loop-at l = record {
  count : l.count ≡ length (all_glyphs l.initial.buffer);
  flagged : AreWordsFlagged l.initial.buffer l.at l.word l.buffer;
}

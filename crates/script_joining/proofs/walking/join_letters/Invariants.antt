use Rattle.std.proofs.Common.{◌≡◌, length}
use Rattle.buffer_core.specs.Sides.{all_glyphs}
use Rattle.script_joining.proofs.Walked.{IsJoining}
use Rattle.script_joining.proofs.walking.join_letters.Given as goal

-- the letters before an index are joined, but for the last one
abbrev pub invariant-loop-at : goal.invariant-loop-at
invariant-loop-at l = record {
  count : l.count ≡ length (all_glyphs l.initial.buffer);
  joining : IsJoining l.tables l.masks l.initial.before l.after l.initial.buffer l.at l.before l.last l.buffer;
}

use Rattle.std.proofs.Common.{◌≡◌, ◌≤◌, ◌+◌, drop, length}
use Rattle.c_characters.specs.Characters.{characters_from, characters_of}
use Rattle.c_characters.proofs.contexts.skip_characters.Given as goal

abbrev pub invariant-characters : goal.invariant-characters
invariant-characters l = record {
  within : l.at + length l.rest ≤ length l.bytes;
  left : drop l.count (characters_from l.encoding l.at l.rest) ≡ drop l.skipped (characters_of l.encoding l.bytes);
}

abbrev pub decreases-characters : goal.decreases-characters
decreases-characters l = length l.rest

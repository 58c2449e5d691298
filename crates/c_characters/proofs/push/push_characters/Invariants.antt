use Rattle.std.proofs.Common.{◌≡◌, ◌≤◌, ◌+◌, length}
use Rattle.buffer_core.specs.Sides.{with_added}
use Rattle.buffer_wrappers.specs.Wrappers.{IsText}
use Rattle.c_characters.specs.Characters.{characters_from, characters_of}
use Rattle.c_characters.specs.Texts.{added_characters, fits_characters}
use Rattle.c_characters.proofs.push.push_characters.Given as goal

-- what is left, after what was appended, is all
abbrev pub invariant-characters : goal.invariant-characters
invariant-characters l = record {
  within : l.at + length l.rest ≤ length l.bytes;
  text : IsText l.buffer;
  held : fits_characters (characters_of l.encoding l.bytes) l.initial.buffer ≡ fits_characters (characters_from l.encoding l.at l.rest) l.buffer;
  added : with_added (added_characters (characters_of l.encoding l.bytes)) l.initial.buffer ≡ with_added (added_characters (characters_from l.encoding l.at l.rest)) l.buffer;
}

abbrev pub decreases-characters : goal.decreases-characters
decreases-characters l = length l.rest

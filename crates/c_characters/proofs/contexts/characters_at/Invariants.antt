use Rattle.std.proofs.Common.{◌≡◌, ◌≤◌, ◌+◌, ◌++◌, length, string_bytes, take}
use Rattle.std.specs.Str.{chars}
use Rattle.c_characters.specs.Characters.{scalars_from}
use Rattle.c_characters.proofs.contexts.characters_at.Given as goal

abbrev pub invariant-characters : goal.invariant-characters
invariant-characters l = record {
  within : l.at + length l.rest ≤ l.left.at + length l.left.bytes.now;
  pushed : chars (string_bytes l.string) ++ take l.count (scalars_from l.encoding l.at l.rest) ≡ take 5 (scalars_from l.encoding l.left.at l.left.bytes.now);
}

abbrev pub decreases-characters : goal.decreases-characters
decreases-characters l = length l.rest

use Rattle.std.proofs.Common.{◌≡◌, ◌≤◌, ◌++◌, length}
use Rattle.std.specs.Str.{chars, IsUtf8}
use Rattle.std.specs.Str.Iter.{chars_rest}
use Rattle.buffer_core.proofs.buffer.context.first_characters.Given as goal

-- what was taken, and then what is left, are all characters
abbrev pub invariant-loop-c : goal.invariant-loop-c
invariant-loop-c l = record {
  can_next : (goal.iterator-loop-c).can_next l.c-iterator;
  finite : (goal.iterator-loop-c).is_finite l.c-iterator;
  utf8 : IsUtf8 (chars_rest l.c-iterator);
  few : length l.characters.items ≤ 5;
  rest : l.characters.items ++ chars (chars_rest l.c-iterator) ≡ chars l.text;
}

use Rattle.std.proofs.Common.{◌≡◌, ◌≤◌, ◌++◌, length, reverse}
use Rattle.std.specs.Str.{chars, IsUtf8}
use Rattle.std.specs.Str.Iter.{chars_rest}
use Rattle.std.specs.Iterator.Adapters.{rev_source}
use Rattle.buffer_core.proofs.buffer.context.last_characters.Given as goal

-- what was taken, and then what is left reversed, are all characters from the end
abbrev pub invariant-loop-c : goal.invariant-loop-c
invariant-loop-c l = record {
  can_next : (goal.iterator-loop-c).can_next l.c-iterator;
  finite : (goal.iterator-loop-c).is_finite l.c-iterator;
  utf8 : IsUtf8 (chars_rest (rev_source l.c-iterator));
  few : length l.characters.items ≤ 5;
  rest : l.characters.items ++ reverse (chars (chars_rest (rev_source l.c-iterator))) ≡ reverse (chars l.text);
}

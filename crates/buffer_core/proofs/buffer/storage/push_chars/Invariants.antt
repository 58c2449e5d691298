use Rattle.std.proofs.Common.{◌≡◌, ◌≤◌, ◌+◌, ◌++◌, IsTrue, length, vec_len}
use Rattle.std.specs.Prelude.{vec_capacity}
use Rattle.std.specs.Str.{chars, IsUtf8}
use Rattle.std.specs.Str.Iter.{char_indices_rest, char_indices_offset}
use Rattle.buffer_core.specs.Text.{added_text_from, offsets_fit}
use Rattle.buffer_core.proofs.buffer.storage.push_chars.Given as goal

-- what was added, and then what is left, are all characters
abbrev pub invariant-loop-at : goal.invariant-loop-at
invariant-loop-at l = record {
  can_next : (goal.iterator-loop-at).can_next l.at-iterator;
  finite : (goal.iterator-loop-at).is_finite l.at-iterator;
  utf8 : IsUtf8 (char_indices_rest l.at-iterator);
  room : vec_len l.glyphs + length (chars (char_indices_rest l.at-iterator)) ≤ vec_capacity l.glyphs;
  fit : IsTrue (offsets_fit (char_indices_offset l.at-iterator) (chars (char_indices_rest l.at-iterator)));
  rest : l.glyphs.items ++ added_text_from (char_indices_offset l.at-iterator) (chars (char_indices_rest l.at-iterator)) ≡ l.initial.glyphs.items ++ added_text_from 0 (chars l.text);
}

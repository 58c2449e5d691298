use Rattle.std.proofs.Common.{◌≡◌}
use Rattle.std.specs.Str.{chars, IsUtf8}
use Rattle.std.specs.Str.Iter.{char_indices_rest, char_indices_offset}
use Rattle.buffer_core.specs.Text.{offsets_fit}
use Rattle.buffer_core.proofs.buffer.storage.each_offset_fits.Given as goal

-- what is left decides
abbrev pub invariant-loop-at : goal.invariant-loop-at
invariant-loop-at l = record {
  can_next : (goal.iterator-loop-at).can_next l.at-iterator;
  finite : (goal.iterator-loop-at).is_finite l.at-iterator;
  utf8 : IsUtf8 (char_indices_rest l.at-iterator);
  rest : offsets_fit (char_indices_offset l.at-iterator) (chars (char_indices_rest l.at-iterator)) ≡ offsets_fit 0 (chars l.text);
}

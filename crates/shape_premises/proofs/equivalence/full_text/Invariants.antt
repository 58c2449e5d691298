use Rattle.std.proofs.Common.{◌≡◌, ◌++◌}
use Rattle.std.specs.Str.{chars, IsUtf8}
use Rattle.std.specs.Str.Iter.{chars_rest}
use Rattle.buffer_unicode_tables.specs.Texts.{full_text}
use Rattle.shape_premises.proofs.equivalence.full_text.Given as goal

-- what was decomposed, and then the decomposition of the rest, is that of the text
abbrev pub invariant-loop-u : goal.invariant-loop-u
invariant-loop-u l = record {
  can_next : (goal.iterator-loop-u).can_next l.u-iterator;
  finite : (goal.iterator-loop-u).is_finite l.u-iterator;
  utf8 : IsUtf8 (chars_rest l.u-iterator);
  done : l.whole.items ++ full_text l.tables (chars (chars_rest l.u-iterator)) ≡ full_text l.tables (chars l.text);
}

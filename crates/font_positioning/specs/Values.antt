-- Value records (OpenType, GPOS, shared tables: value record).
use Rattle.std.specs.Prelude.{ℕ, ℤ, pos, ◌+◌, ◌*◌, ◌==◌, Bool, not, if◌then◌else◌, List, bit_and, count_ones}
use Rattle.font_bytes.specs.Words.{signed_word}
use Rattle.layout_tables.specs.declared.value.ValueRecord.{ValueRecord}

-- whether records of a value format have a field: the format has its bit
abbrev pub has_field : ℕ → ℕ → Bool
has_field format bit = not (bit_and format bit == 0)

-- how many bytes the field of a bit takes in records of a format
abbrev pub field_size : ℕ → ℕ → ℕ
field_size format bit = if has_field format bit then 2 else 0

-- the field of a bit at an offset, 0 where records of the format have none
abbrev pub field_at : ℕ → ℕ → List ℕ → ℕ → ℤ
field_at format bit table at = if has_field format bit then signed_word table at else pos 0

-- the bytes of xPlacement (bit 1); yPlacement has bit 2, xAdvance 4, yAdvance 8
abbrev pub one_size : ℕ → ℕ
one_size format = field_size format 1

-- the bytes of xPlacement and yPlacement
abbrev pub two_size : ℕ → ℕ
two_size format = one_size format + field_size format 2

-- the bytes of xPlacement, yPlacement and xAdvance
abbrev pub three_size : ℕ → ℕ
three_size format = two_size format + field_size format 4

-- the bytes of xPlacement, yPlacement, xAdvance and yAdvance
abbrev pub four_size : ℕ → ℕ
four_size format = three_size format + field_size format 8

-- how many bytes records of a format have: two for each of its bits. After the four values stand the offsets of devices and
-- fields without a meaning so far
abbrev pub value_size : ℕ → ℕ
value_size format = four_size format + 2 * count_ones (bit_and format 0xfff0)

-- the value record at an offset
unfoldable pub value_at : ℕ → List ℕ → ℕ → ValueRecord
value_at format table at = record {
  x_placement = field_at format 1 table at;
  y_placement = field_at format 2 table (at + one_size format);
  x_advance = field_at format 4 table (at + two_size format);
  y_advance = field_at format 8 table (at + three_size format);
}

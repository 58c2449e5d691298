-- The ranges of characters that a subtable maps, and the glyph of each character of a range (OpenType, chapter 5, cmap).
use Rattle.std.specs.Prelude.{ℕ, ◌+◌, ◌-◌, ◌*◌, ◌/◌, ◌%◌, ◌==◌, ◌≤◌, nat_le, nat_lt, if◌then◌else◌, List, Option, Some, None}
use Rattle.font_bytes.specs.Words.{fits, byte, word, word_at, long}
use Rattle.font_cmap.specs.declared.ranges.GlyphRule.{GlyphRule}
use Rattle.font_cmap.specs.declared.ranges.GlyphRule.TheVariants.{Bytes, HighBytes, Delta, Listed, Sequence, Same}
use Rattle.font_cmap.specs.declared.ranges.CharacterRange.{CharacterRange}
use Rattle.font_cmap.specs.declared.ranges.RangeForm.{RangeForm}
use Rattle.font_cmap.specs.declared.ranges.RangeForm.TheVariants.{ByteArray, HighByteTable, Segments, Trimmed, LongTrimmed, Groups, SameGroups}

-- ---- glyphs

-- glyphIdArray of format 0: the byte at an offset, 0 past the end
abbrev pub byte_glyph : List ℕ → ℕ → ℕ
byte_glyph table at = if fits table at 1 then byte table at else 0

-- a number of a glyph array: 0 for no glyph, else idDelta is added to it modulo 65,536
abbrev pub moved_glyph : ℕ → Option ℕ → ℕ
moved_glyph delta None = 0
moved_glyph delta (Some g) = if g == 0 then 0 else (g + delta) % 65536

-- the glyph of the number at an offset, none past the table's end
abbrev pub listed_glyph : List ℕ → ℕ → ℕ → ℕ
listed_glyph table at delta = moved_glyph delta (word_at table at)

-- the subheader of format 2 at an offset (firstCode at 0, entryCount at 2, idDelta at 4, idRangeOffset at 6, which
-- counts from where it stands) gives a low byte its glyph
unfoldable pub low_glyph : List ℕ → ℕ → ℕ → ℕ
low_glyph table at low = if fits table at 8
    then (if nat_lt low (word table at) then 0 else (if nat_le (word table (at + 2)) (low - word table at) then 0
    else listed_glyph table (at + 6 + (word table (at + 6) + 2 * (low - word table at))) (word table (at + 4))))
    else 0

-- subHeaderKeys of format 2, each eight times the index of a subheader
abbrev pub header_key : List ℕ → ℕ → ℕ → ℕ
header_key table at high = word table (at + 2 * high) / 8 * 8

-- format 2: a character below 256 is a single byte, whose key has to be 0, the first subheader's; the others have the
-- subheader of their high byte, whose key isn't 0; subheaders follow the 256 keys
unfoldable pub high_byte_glyph : List ℕ → ℕ → ℕ → ℕ
high_byte_glyph table at c = if c / 256 == 0
    then (if header_key table at (c % 256) == 0 then low_glyph table (at + 512) (c % 256) else 0)
    else (if header_key table at (c / 256) == 0 then 0 else low_glyph table (at + 512 + header_key table at (c / 256)) (c % 256))

-- the glyph so far after a first one, none past 65535
abbrev pub sequence_glyph : ℕ → ℕ → ℕ
sequence_glyph glyph offset = if nat_le (glyph + offset) 65535 then glyph + offset else 0

-- the glyph that a rule gives a character of a range with a first one, 0 for none
abbrev pub glyph_by : List ℕ → GlyphRule → ℕ → ℕ → ℕ
glyph_by table (Bytes at) first c = byte_glyph table (at + (c - first))
glyph_by table (HighBytes at) first c = high_byte_glyph table at (c % 65536)
glyph_by table (Delta delta) first c = (c % 65536 + delta) % 65536
glyph_by table (Listed at delta) first c = listed_glyph table (at + 2 * (c - first)) delta
glyph_by table (Sequence glyph) first c = sequence_glyph glyph (c - first)
glyph_by table (Same glyph) first c = sequence_glyph glyph 0

-- the glyph of a character of a range
unfoldable pub glyph_in : List ℕ → CharacterRange → ℕ → ℕ
glyph_in table r c = glyph_by table r.rule r.first c

-- the offset of a rule is within a table of a length, or not far past it
abbrev pub IsWithin : ℕ → GlyphRule → Type 0
IsWithin size (Bytes at) = at ≤ size
IsWithin size (HighBytes at) = at + 512 ≤ size
IsWithin size (Delta delta) = Unit {0}
IsWithin size (Listed at delta) = at ≤ size + 65536
IsWithin size (Sequence glyph) = Unit {0}
IsWithin size (Same glyph) = Unit {0}

-- ---- ranges

-- the rule of a segment of format 4 with an idDelta: the delta alone where idRangeOffset, at an offset, is 0; else glyphs
-- from idRangeOffset / 2 words after that offset on
abbrev pub segment_rule : List ℕ → ℕ → ℕ → GlyphRule
segment_rule table delta at = if word table at == 0 then Delta delta else Listed (at + word table at / 2 * 2) delta

-- the range of a form at an offset. Format 4: endCode at the offset, startCode, idDelta and idRangeOffset in arrays after
-- the end codes and a word of padding. Formats 6 and 10: the first character, the number of characters, their glyphs.
-- Formats 12 and 13: startCharCode, endCharCode, startGlyphID or glyphID
unfoldable pub range_at : List ℕ → RangeForm → ℕ → CharacterRange
range_at table ByteArray at = record { first = 0; end = 256; rule = Bytes at }
range_at table HighByteTable at = record { first = 0; end = 65536; rule = HighBytes at }
range_at table (Segments count) at = record { first = word table (at + 2 + 2 * count); end = word table at + 1; rule = segment_rule table (word table (at + 2 + 4 * count)) (at + 2 + 6 * count) }
range_at table Trimmed at = record { first = word table at; end = word table at + word table (at + 2); rule = Listed (at + 4) 0 }
range_at table LongTrimmed at = record { first = long table at; end = long table at + long table (at + 4); rule = Listed (at + 8) 0 }
range_at table Groups at = record { first = long table at; end = long table (at + 4) + 1; rule = Sequence (long table (at + 8)) }
range_at table SameGroups at = record { first = long table at; end = long table (at + 4) + 1; rule = Same (long table (at + 8)) }

-- how many bytes a range of a form needs from its offset on
abbrev pub bytes_needed : RangeForm → ℕ
bytes_needed ByteArray = 256
bytes_needed HighByteTable = 512
bytes_needed (Segments count) = 4 + 6 * count
bytes_needed Trimmed = 4
bytes_needed LongTrimmed = 8
bytes_needed Groups = 12
bytes_needed SameGroups = 12

-- how many bytes apart the ranges of a form are
abbrev pub form_width : RangeForm → ℕ
form_width ByteArray = 0
form_width HighByteTable = 0
form_width (Segments count) = 2
form_width Trimmed = 0
form_width LongTrimmed = 0
form_width Groups = 12
form_width SameGroups = 12

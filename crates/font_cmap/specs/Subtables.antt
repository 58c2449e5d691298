-- The subtables of cmap by their formats (OpenType, chapter 5, cmap).
use Rattle.std.specs.Prelude.{◌≡◌, ◌⊎◌, ℕ, ◌+◌, ◌*◌, ◌/◌, ◌==◌, if◌then◌else◌, List, Result, Ok, Err}
use Rattle.layout_face.specs.declared.parts.CharacterRow.{CharacterRow}
use Rattle.font_bytes.specs.declared.fault.TableFault.{TableFault}
use Rattle.font_bytes.specs.declared.fault.TableFault.TheVariants.{Kind}
use Rattle.font_bytes.specs.Results.{and_then}
use Rattle.font_bytes.specs.Room.{room_after}
use Rattle.font_bytes.specs.Words.{need, word, long}
use Rattle.font_cmap.specs.declared.ranges.RangeForm.{RangeForm}
use Rattle.font_cmap.specs.declared.ranges.RangeForm.TheVariants.{ByteArray, HighByteTable, Segments, Trimmed, LongTrimmed, Groups, SameGroups}
use Rattle.font_cmap.specs.declared.ranges.RangeArray.{RangeArray}
use Rattle.font_cmap.specs.Rows.{ranges_of, count_of, rows_of}

-- format 0: glyphIdArray at 6
abbrev pub byte_array : List ℕ → ℕ → Result RangeArray TableFault
byte_array table at = and_then (need table at 262) (λ _. Ok (record { form = ByteArray; at = at + 6; count = 1 }))

-- format 2: subHeaderKeys at 6
abbrev pub high_byte_table : List ℕ → ℕ → Result RangeArray TableFault
high_byte_table table at = and_then (need table at 518) (λ _. Ok (record { form = HighByteTable; at = at + 6; count = 1 }))

-- format 4: segCountX2 at 6, endCode at 14; a word of padding and three more arrays follow
abbrev pub segment_array : List ℕ → ℕ → Result RangeArray TableFault
segment_array table at = and_then (need table at 14) (λ _. and_then (need table (at + 14) (2 + 8 * (word table (at + 6) / 2)))
    (λ _. Ok (record { form = Segments (word table (at + 6) / 2); at = at + 14; count = word table (at + 6) / 2 })))

-- format 6: firstCode at 6, entryCount at 8, glyphIdArray at 10
abbrev pub trimmed_array : List ℕ → ℕ → Result RangeArray TableFault
trimmed_array table at = and_then (need table at 10) (λ _. and_then (need table (at + 10) (2 * word table (at + 8)))
    (λ _. Ok (record { form = Trimmed; at = at + 6; count = 1 })))

-- format 10: startCharCode at 12, numChars at 16, glyphIdArray at 20
abbrev pub long_trimmed_array : List ℕ → ℕ → Result RangeArray TableFault
long_trimmed_array table at = and_then (need table at 20) (λ _. and_then (need table (at + 20) (2 * long table (at + 16)))
    (λ _. Ok (record { form = LongTrimmed; at = at + 12; count = 1 })))

-- formats 12 and 13: numGroups at 12, groups at 16
abbrev pub group_array : List ℕ → ℕ → RangeForm → Result RangeArray TableFault
group_array table at form = and_then (need table at 16) (λ _. and_then (need table (at + 16) (12 * long table (at + 12)))
    (λ _. Ok (record { form = form; at = at + 16; count = long table (at + 12) })))

-- a form of groups
abbrev pub IsGroups : RangeForm → Type 0
IsGroups form = (form ≡ Groups) ⊎ (form ≡ SameGroups)

-- the ranges of a subtable of a format
abbrev pub ranges_of_format : List ℕ → ℕ → ℕ → Result RangeArray TableFault
ranges_of_format table at format = if format == 0 then byte_array table at
    else (if format == 2 then high_byte_table table at
    else (if format == 4 then segment_array table at
    else (if format == 6 then trimmed_array table at
    else (if format == 10 then long_trimmed_array table at
    else (if format == 12 then group_array table at Groups
    else (if format == 13 then group_array table at SameGroups
    else Err (Kind at)))))))

-- the ranges of the subtable at an offset, whose format is at 0
unfoldable pub ranges_at : List ℕ → ℕ → Result RangeArray TableFault
ranges_at table at = and_then (need table at 2) (λ _. ranges_of_format table at (word table at))

-- the rows of ranges, each of whose characters takes room
unfoldable pub rows_of_array : ℕ → List ℕ → RangeArray → Result (List CharacterRow × ℕ) TableFault
rows_of_array room table a = and_then (room_after room (count_of 0 (ranges_of table a))) (λ left. Ok (rows_of table 0 (ranges_of table a), left))

-- Pair adjustment subtables by glyphs (OpenType, GPOS lookup type 2, format 1).
use Rattle.std.specs.Prelude.{ℕ, ◌+◌, ◌*◌, ◌==◌, ◌&&◌, nat_le, Bool, true, if◌then◌else◌, List, [], ◌∷◌, length, Option, Some, None, Result, Ok}
use Rattle.font_bytes.specs.declared.fault.TableFault.{TableFault}
use Rattle.font_bytes.specs.Results.{and_then}
use Rattle.font_bytes.specs.Words.{need, word}
use Rattle.font_bytes.specs.Records.{records}
use Rattle.font_bytes.specs.Room.{room_after}
use Rattle.buffer_rows.specs.KeyOrder.{key_order}
use Rattle.font_common.specs.Rows.{first_rows}
use Rattle.font_records.specs.Turns.{in_turn, record_offsets}
use Rattle.font_common.specs.Coverage.{glyphs_in_room}
use Rattle.font_records.specs.Covered.{first_records}
use Rattle.layout_tables.specs.PairRows.{pair_order}
use Rattle.layout_tables.specs.declared.value.ValueRecord.{ValueRecord}
use Rattle.layout_tables.specs.declared.pair.PairValues.{PairValues}
use Rattle.layout_tables.specs.declared.pair.PairRow.{PairRow}
use Rattle.font_positioning.specs.Values.{value_size, value_at}

-- the second value record, absent where the subtable has no format for it: then the second glyph may begin the next pair
abbrev pub second_value : ℕ → List ℕ → ℕ → Option ValueRecord
second_value format2 table at = if format2 == 0 then None else Some (value_at format2 table at)

-- the value records of a pair at an offset, by valueFormat1 and valueFormat2
abbrev pub pair_values : ℕ → ℕ → List ℕ → ℕ → PairValues
pair_values format1 format2 table at =
    record { first = value_at format1 table at; second = second_value format2 table (at + value_size format1) }

-- how many bytes the value records of a pair have
abbrev pub pair_size : ℕ → ℕ → ℕ
pair_size format1 format2 = value_size format1 + value_size format2

-- PairValueRecord: secondGlyph at 0, valueRecord1 at 2, valueRecord2 after it
abbrev pub pair_row : ℕ → ℕ → List ℕ → ℕ → ℕ → PairRow
pair_row format1 format2 table first at =
    record { first = first; second = word table at; values = pair_values format1 format2 table (at + 2) }

-- the pairs of an array of records of a first glyph
abbrev pub pair_array : ℕ → ℕ → List ℕ → ℕ → ℕ → ℕ → List PairRow
pair_array format1 format2 table first at count = records (pair_row format1 format2 table first) (2 + pair_size format1 format2) at count

-- rows in the order of their second glyphs: in some fonts these fall
abbrev pub by_second : List PairRow → List PairRow
by_second rows = key_order (λ r. r.second) rows

-- the rows of the pair set at an offset: pairValueCount at 0, pairValueRecords at 2
abbrev pub pair_set : ℕ → ℕ → List ℕ → ℕ → ℕ → ℕ → Result (List PairRow × ℕ) TableFault
pair_set format1 format2 table room at first = and_then (need table at 2) (λ _.
    and_then (need table (at + 2) ((2 + pair_size format1 format2) * word table at)) (λ _. and_then (room_after room (word table at)) (λ left.
    Ok (by_second (pair_array format1 format2 table first (at + 2) (word table at)), left))))

-- the rows of a first glyph: its record is the offset of a pair set from the subtable's start; a null one is an empty set
abbrev pub set_rows : ℕ → ℕ → ℕ → List ℕ → ℕ → ℕ → ℕ → Result (List PairRow × ℕ) TableFault
set_rows format1 format2 start table room at first =
    if word table at == 0 then Ok ([], room) else pair_set format1 format2 table room (start + word table at) first

-- the rows of first glyphs by an array of offsets of pair sets
abbrev pub pairs_in : ℕ → ℕ → ℕ → List ℕ → ℕ → ℕ → List ℕ → ℕ → Result (List PairRow × ℕ) TableFault
pairs_in format1 format2 start table at count glyphs room =
    in_turn (λ r p. set_rows format1 format2 start table r p.1 p.0) room (first_records 0 glyphs (record_offsets 2 at count))

-- format 1: coverageOffset at 2, valueFormat1 at 4, valueFormat2 at 6, pairSetCount at 8, then the offsets. Of rows of one
-- pair the first counts
abbrev pub glyph_pairs : ℕ → List ℕ → ℕ → Result (List PairRow × ℕ) TableFault
glyph_pairs room table at = and_then (need table at 10) (λ _. and_then (need table (at + 10) (2 * word table (at + 8))) (λ _.
    and_then (room_after room (word table (at + 8))) (λ left. and_then (glyphs_in_room left table at (word table (at + 2))) (λ c.
    and_then (pairs_in (word table (at + 4)) (word table (at + 6)) at table (at + 10) (word table (at + 8)) c.0 c.1) (λ r.
    Ok (first_rows pair_order (λ row. (row.first, row.second)) None r.0, r.1))))))

-- ---- sets in order

-- whether second glyphs never fall from a least one on
abbrev pub seconds_never_fall : ℕ → List PairRow → Bool
seconds_never_fall least [] = true
seconds_never_fall least (r ∷ rows) = nat_le least r.second && seconds_never_fall r.second rows

-- The glyphs of a subtable's coverage, and the records that the subtable has for them (OpenType, chapter 2: the record
-- with a coverage index is that of the glyph with the index).
use Rattle.std.specs.Prelude.{ℕ, ◌+◌, nat_le, if◌then◌else◌, List, [], ◌∷◌, length, Option, Result, Ok}
use Rattle.font_bytes.specs.declared.fault.TableFault.{TableFault}
use Rattle.font_bytes.specs.Results.{and_then}
use Rattle.font_bytes.specs.Words.{word}
use Rattle.font_bytes.specs.Room.{room_after}
use Rattle.font_common.specs.Coverage.{glyphs_in_room}
use Rattle.font_records.specs.Turns.{in_turn, if_any, record_offsets}

-- glyphs from a least one on, each with the offset of its record: as many as there are of both. A repeated glyph has its
-- first record
abbrev pub first_records : ℕ → List ℕ → List ℕ → List (ℕ × ℕ)
first_records least [] os = []
first_records least (g ∷ gs) [] = []
first_records least (g ∷ gs) (o ∷ os) = if nat_le least g then (g, o) ∷ first_records (g + 1) gs os else first_records least gs os

-- the rows of glyphs by an array of records: how a glyph's row is read at its record, the width of a record, the offset
-- of the first one, how many there are
abbrev pub rows_in : {R : Type 0} → (ℕ → ℕ → ℕ → Result (Option R × ℕ) TableFault) → ℕ → ℕ → ℕ → List ℕ → ℕ → Result (List R × ℕ) TableFault
rows_in row width at count glyphs room = in_turn (λ r p. if_any (row r p.1 p.0)) room (first_records 0 glyphs (record_offsets width at count))

-- the rows of the glyphs of a coverage. Each record takes a row of room, and each glyph
abbrev pub rows_at : {R : Type 0} → (ℕ → ℕ → ℕ → Result (Option R × ℕ) TableFault) → List ℕ → ℕ → ℕ → ℕ → ℕ → ℕ → ℕ → Result (List R × ℕ) TableFault
rows_at row table start coverage width at count room =
    and_then (room_after room count) (λ left. and_then (glyphs_in_room left table start coverage) (λ c. rows_in row width at count c.0 c.1))

-- the rows of a glyph at its record, none of one below the least
abbrev pub rows_if : {R : Type 0} → (ℕ → ℕ → ℕ → Result (List R × ℕ) TableFault) → ℕ → ℕ → ℕ → ℕ → Result (List R × ℕ) TableFault
rows_if row least room at g = if nat_le least g then row room at g else Ok ([], room)

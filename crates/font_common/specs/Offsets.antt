-- Tables that are read by an offset, and arrays of offsets (Offset16).
use Rattle.std.specs.Prelude.{ℕ, ◌+◌, ◌*◌, ◌==◌, if◌then◌else◌, List, [], ◌∷◌, ◌++◌, Result, Ok}
use Rattle.font_bytes.specs.declared.fault.TableFault.{TableFault}
use Rattle.font_bytes.specs.Results.{and_then}
use Rattle.font_bytes.specs.Room.{room_after}
use Rattle.font_bytes.specs.Words.{need, word}
use Rattle.font_bytes.specs.Records.{records}

-- the value of the table at an offset from a base, by what a null offset leads to and how a table is read at an offset of
-- bytes in the room that is left
abbrev pub value_at_offset : {A : Type 0} → A → (ℕ → List ℕ → ℕ → Result (A × ℕ) TableFault) → ℕ → List ℕ → ℕ → ℕ → Result (A × ℕ) TableFault
value_at_offset null read room bytes base offset = if offset == 0 then Ok (null, room) else read room bytes (base + offset)

-- values after others, with the room that is left
abbrev pub after : {A : Type 0} → List A → Result (List A × ℕ) TableFault → Result (List A × ℕ) TableFault
after done rest = and_then rest (λ r. Ok (done ++ r.0, r.1))

-- the values of tables at offsets, one after another in the room that those before them leave
abbrev pub tables_in : {A : Type 0} → (ℕ → ℕ → Result (A × ℕ) TableFault) → ℕ → List ℕ → Result (List A × ℕ) TableFault
tables_in read room [] = Ok ([], room)
tables_in read room (o ∷ os) = and_then (read room o) (λ a. after (a.0 ∷ []) (tables_in read a.1 os))

-- the array of offsets
abbrev pub offset_array : List ℕ → ℕ → ℕ → List ℕ
offset_array bytes at count = records (word bytes) 2 at count

-- the values of the tables of an array of n offsets from a base; each offset takes a row of room
abbrev pub tables_at : {A : Type 0} → A → (ℕ → List ℕ → ℕ → Result (A × ℕ) TableFault) → List ℕ → ℕ → ℕ → ℕ → ℕ → Result (List A × ℕ) TableFault
tables_at null read bytes base at count room =
    and_then (room_after room count) (λ left. tables_in (λ r o. value_at_offset null read r bytes base o) left (offset_array bytes at count))

-- the values of the tables of a count and that many offsets
abbrev pub list_at : {A : Type 0} → A → (ℕ → List ℕ → ℕ → Result (A × ℕ) TableFault) → List ℕ → ℕ → ℕ → ℕ → Result (List A × ℕ) TableFault
list_at null read bytes base at room =
    and_then (need bytes at 2) (λ _. and_then (need bytes (at + 2) (2 * word bytes at)) (λ _. tables_at null read bytes base (at + 2) (word bytes at) room))

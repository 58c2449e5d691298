-- Values of records that are read in turn, each in the room that those before it leave.
use Rattle.std.specs.Prelude.{ℕ, ◌+◌, nat_le, if◌then◌else◌, List, [], ◌∷◌, ◌++◌, length, Option, Some, Result, Ok}
use Rattle.std.specs.Option.{option_to_list}
use Rattle.font_bytes.specs.declared.fault.TableFault.{TableFault}
use Rattle.font_bytes.specs.Results.{and_then}
use Rattle.font_bytes.specs.Room.{room_after}
use Rattle.font_bytes.specs.Records.{records}
use Rattle.font_common.specs.Offsets.{after}

-- the values of elements, one after another
abbrev pub in_turn : {X A : Type 0} → (ℕ → X → Result (List A × ℕ) TableFault) → ℕ → List X → Result (List A × ℕ) TableFault
in_turn read room [] = Ok ([], room)
in_turn read room (x ∷ xs) = and_then (read room x) (λ a. after a.0 (in_turn read a.1 xs))

-- a value, where there is one, as a list
abbrev pub if_any : {A : Type 0} → Result (Option A × ℕ) TableFault → Result (List A × ℕ) TableFault
if_any read = and_then read (λ a. Ok (option_to_list a.0, a.1))

-- a value that is there, made of what was read
abbrev pub some_value : {A B : Type 0} → (A → B) → Result (A × ℕ) TableFault → Result (Option B × ℕ) TableFault
some_value make read = and_then read (λ r. Ok (Some (make r.0), r.1))

-- the offsets of records of a width: that of the first one, how many there are
abbrev pub record_offsets : ℕ → ℕ → ℕ → List ℕ
record_offsets width at count = records (λ o. o) width at count

-- the values of an array of records, each of which takes a row of room
abbrev pub array_at : {A : Type 0} → (ℕ → ℕ → Result (Option A × ℕ) TableFault) → ℕ → ℕ → ℕ → ℕ → Result (List A × ℕ) TableFault
array_at read width at count room = and_then (room_after room count) (λ left. in_turn (λ r o. if_any (read r o)) left (record_offsets width at count))

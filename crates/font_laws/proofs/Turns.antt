-- Values that are read one after another fit the room that each of them takes.
use Rattle.std.proofs.Common.{◌≡◌, ℕ, ◌+◌, ◌*◌, ◌≤◌, ◌==◌, List, [], ◌∷◌, length, Option, Result, Ok, ap, arith}
use Rattle.std.specs.Result.{IfOk}
use Rattle.font_bytes.specs.declared.fault.TableFault.{TableFault}
use Rattle.font_bytes.specs.Room.{room_after}
use Rattle.font_bytes.specs.Words.{need, word}
use Rattle.font_common.specs.Coverage.{glyphs_in_room}
use Rattle.font_common.specs.Offsets.{value_at_offset, tables_in, tables_at, list_at, offset_array}
use Rattle.font_records.specs.Turns.{in_turn, if_any, some_value, record_offsets, array_at}
use Rattle.font_records.specs.Covered.{first_records, rows_in, rows_at}
use Rattle.font_laws.specs.RowCounts.{total_row_count, optional_row_count}
use Rattle.font_laws.proofs.Within.{Fitting, then_if, then_any, if_either, weaker, room_taken}
use Rattle.font_laws.proofs.Coverages.{glyphs_fit}
use Rattle.font_laws.proofs.Totals.{total_append, total_option, records_length, first_records_length}

-- a value, and the room that it leaves but for some rows that were taken before it was read
abbrev pub FittingBut : {A : Type 0} → (A → ℕ) → ℕ → ℕ → Result (A × ℕ) TableFault → Type 0
FittingBut count slack room read = IfOk read (λ r. count r.0 + r.1 ≤ room + slack)

pub in_turn_fits : {X A : Type 0} (count : A → ℕ) (slack : ℕ) (read : ℕ → X → Result (List A × ℕ) TableFault)
    → ((room : ℕ) (x : X) → FittingBut (total_row_count count) slack room (read room x))
    → (room : ℕ) (xs : List X) → FittingBut (total_row_count count) (slack * length xs) room (in_turn read room xs)
in_turn_fits count slack read each room [] = omega arith
in_turn_fits count slack read each room (x ∷ xs) =
    then_if (λ a. total_row_count count a.0 + a.1 ≤ room + slack) _ (read room x) _ (each room x) (λ a h.
    then_if (λ r. total_row_count count r.0 + r.1 ≤ a.1 + slack * length xs) _ (in_turn read a.1 xs) _ (in_turn_fits count slack read each a.1 xs) (λ r k.
    let split = total_append count a.0 r.0 in omega arith))

pub if_any_fits : {A : Type 0} (count : A → ℕ) (slack room : ℕ) (read : Result (Option A × ℕ) TableFault)
    → FittingBut (optional_row_count count) slack room read → FittingBut (total_row_count count) (slack + 1) room (if_any read)
if_any_fits count slack room read h =
    then_if (λ r. optional_row_count count r.0 + r.1 ≤ room + slack) _ read _ h (λ r k. let one = total_option count r.0 in omega arith)

pub some_value_fits : {A B : Type 0} (count : A → ℕ) (count2 : B → ℕ) (make : A → B) → ((a : A) → count2 (make a) ≤ count a) → (room : ℕ) (read : Result (A × ℕ) TableFault)
    → Fitting count room read → Fitting (optional_row_count count2) room (some_value make read)
some_value_fits count count2 make less room read h =
    then_if (λ r. count r.0 + r.1 ≤ room) _ read _ h (λ r k. let one = less r.0 in omega arith)

-- rows of glyphs by their records
pub rows_in_fit : {R : Type 0} (count : R → ℕ) (row : ℕ → ℕ → ℕ → Result (Option R × ℕ) TableFault)
    → ((room at glyph : ℕ) → Fitting (optional_row_count count) room (row room at glyph))
    → (width at n : ℕ) (glyphs : List ℕ) (room : ℕ)
    → FittingBut (total_row_count count) (1 * length (first_records 0 glyphs (record_offsets width at n))) room (rows_in row width at n glyphs room)
rows_in_fit count row each width at n glyphs room =
    in_turn_fits count 1 (λ r p. if_any (row r p.1 p.0))
    (λ r p. if_any_fits count 0 r (row r p.1 p.0) (weaker (λ v. optional_row_count count v.0 + v.1 ≤ r) (λ v. optional_row_count count v.0 + v.1 ≤ r + 0) (row r p.1 p.0) (each r p.1 p.0) (λ v h. omega arith)))
    room (first_records 0 glyphs (record_offsets width at n))

-- the rows of the glyphs of a coverage, each with its own
pub rows_at_fit : {R : Type 0} (count : R → ℕ) (row : ℕ → ℕ → ℕ → Result (Option R × ℕ) TableFault)
    → ((room at glyph : ℕ) → Fitting (optional_row_count count) room (row room at glyph))
    → (table : List ℕ) (start coverage width at n room : ℕ) → Fitting (total_row_count count) room (rows_at row table start coverage width at n room)
rows_at_fit count row each table start coverage width at n room =
    then_if (λ left. n + left ≡ room) _ (room_after room n) _ (room_taken room n) (λ left e.
    then_if (λ c. length c.0 + c.1 ≤ left) _ (glyphs_in_room left table start coverage) _ (glyphs_fit left table start coverage) (λ c h.
    weaker (λ r. total_row_count count r.0 + r.1 ≤ c.1 + 1 * length (first_records 0 c.0 (record_offsets width at n))) _ (rows_in row width at n c.0 c.1)
    (rows_in_fit count row each width at n c.0 c.1) (λ r k.
    let few = first_records_length 0 c.0 (record_offsets width at n) in
    let as_many = records_length (λ o. o) width at n in
    omega arith)))

-- an array of records
pub array_fits : {A : Type 0} (count : A → ℕ) (slack : ℕ) (read : ℕ → ℕ → Result (Option A × ℕ) TableFault)
    → ((room at : ℕ) → FittingBut (optional_row_count count) slack room (read room at))
    → (width at n room : ℕ) → FittingBut (total_row_count count) (slack * n) room (array_at read width at n room)
array_fits count slack read each width at n room =
    then_if (λ left. n + left ≡ room) _ (room_after room n) _ (room_taken room n) (λ left e.
    weaker (λ r. total_row_count count r.0 + r.1 ≤ left + (slack + 1) * length (record_offsets width at n)) _ (in_turn (λ r o. if_any (read r o)) left (record_offsets width at n))
    (in_turn_fits count (slack + 1) (λ r o. if_any (read r o)) (λ r o. if_any_fits count slack r (read r o) (each r o)) left (record_offsets width at n)) (λ r k.
    let as_many = records_length (λ o. o) width at n in
    let same = ap (λ m. (slack + 1) * m) as_many in
    omega arith))

-- ---- arrays of offsets

-- the value at an offset, which may be null
pub value_fits : {A : Type 0} (count : A → ℕ) (null : A) (read : ℕ → List ℕ → ℕ → Result (A × ℕ) TableFault) (bytes : List ℕ) → count null ≡ 0
    → ((room at : ℕ) → Fitting count room (read room bytes at))
    → (room base offset : ℕ) → Fitting count room (value_at_offset null read room bytes base offset)
value_fits count null read bytes none each room base offset =
    if_either _ (offset == 0) (Ok (null, room)) (read room bytes (base + offset)) (omega arith) (each room (base + offset))

pub tables_in_fit : {A : Type 0} (count : A → ℕ) (read : ℕ → ℕ → Result (A × ℕ) TableFault) → ((room o : ℕ) → Fitting count room (read room o))
    → (room : ℕ) (os : List ℕ) → FittingBut (total_row_count count) (length os) room (tables_in read room os)
tables_in_fit count read each room [] = omega arith
tables_in_fit count read each room (o ∷ os) =
    then_if (λ a. count a.0 + a.1 ≤ room) _ (read room o) _ (each room o) (λ a h.
    then_if (λ r. total_row_count count r.0 + r.1 ≤ a.1 + length os) _ (tables_in read a.1 os) _ (tables_in_fit count read each a.1 os) (λ r k. omega arith))

pub tables_at_fit : {A : Type 0} (count : A → ℕ) (null : A) (read : ℕ → List ℕ → ℕ → Result (A × ℕ) TableFault) (bytes : List ℕ) → count null ≡ 0
    → ((room at : ℕ) → Fitting count room (read room bytes at))
    → (base at n room : ℕ) → Fitting (total_row_count count) room (tables_at null read bytes base at n room)
tables_at_fit count null read bytes none each base at n room =
    then_if (λ left. n + left ≡ room) _ (room_after room n) _ (room_taken room n) (λ left e.
    weaker (λ r. total_row_count count r.0 + r.1 ≤ left + length (offset_array bytes at n)) _ (tables_in (λ r o. value_at_offset null read r bytes base o) left (offset_array bytes at n))
    (tables_in_fit count (λ r o. value_at_offset null read r bytes base o) (λ r o. value_fits count null read bytes none each r base o) left (offset_array bytes at n)) (λ r k.
    let as_many = records_length (word bytes) 2 at n in
    omega arith))

pub list_fits : {A : Type 0} (count : A → ℕ) (null : A) (read : ℕ → List ℕ → ℕ → Result (A × ℕ) TableFault) (bytes : List ℕ) → count null ≡ 0
    → ((room at : ℕ) → Fitting count room (read room bytes at))
    → (base at room : ℕ) → Fitting (total_row_count count) room (list_at null read bytes base at room)
list_fits count null read bytes none each base at room =
    then_any _ (need bytes at 2) _ (λ _. then_any _ (need bytes (at + 2) (2 * word bytes at)) _ (λ _.
    tables_at_fit count null read bytes none each base (at + 2) (word bytes at) room))

-- ---- plain arrays

pub plain_array_fits : {A : Type 0} (count : A → ℕ) (read : ℕ → ℕ → Result (Option A × ℕ) TableFault)
    → ((room at : ℕ) → Fitting (optional_row_count count) room (read room at))
    → (width at n room : ℕ) → Fitting (total_row_count count) room (array_at read width at n room)
plain_array_fits count read each width at n room =
    weaker (λ r. total_row_count count r.0 + r.1 ≤ room + 0 * n) _ (array_at read width at n room)
    (array_fits count 0 read (λ r o. weaker (λ v. optional_row_count count v.0 + v.1 ≤ r) _ (read r o) (each r o) (λ v h. omega arith)) width at n room)
    (λ r h. omega arith)

pub plain_turns_fit : {X A : Type 0} (count : A → ℕ) (read : ℕ → X → Result (List A × ℕ) TableFault)
    → ((room : ℕ) (x : X) → Fitting (total_row_count count) room (read room x))
    → (room : ℕ) (xs : List X) → Fitting (total_row_count count) room (in_turn read room xs)
plain_turns_fit count read each room xs =
    weaker (λ r. total_row_count count r.0 + r.1 ≤ room + 0 * length xs) _ (in_turn read room xs)
    (in_turn_fits count 0 read (λ r x. weaker (λ v. total_row_count count v.0 + v.1 ≤ r) _ (read r x) (each r x) (λ v h. omega arith)) room xs)
    (λ r h. omega arith)

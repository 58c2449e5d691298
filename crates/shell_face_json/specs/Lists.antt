-- Lists of items inside a row, and lists of rows.
use Rattle.std.specs.Prelude.{ℕ, suc, nat_lt, Bool, codes, if◌then◌else◌, is_some, List, [], ◌∷◌, ◌++◌, Option, Some, None, Result, Ok, Err, ⊤}
use Rattle.std.specs.Option.{option_map_or}
use Rattle.serde_json.specs.Data.{Data, null, boolean, number, string, array, object, Items, no_items, item}
use Rattle.serde_json.specs.Find.{get, as_array, as_object}
use Rattle.shell_json.specs.declared.fault.JsonFault.{JsonFault}
use Rattle.shell_json.specs.declared.fault.JsonFault.TheVariants.{WrongShape, OutOfRange}
use Rattle.shell_json.specs.Cell.{and_then, first_fault, u16_value}
use Rattle.shell_json.specs.Items.{list_of, list_at}
use Rattle.shell_json.specs.Rows.{after}

-- ---- numbers

-- a number below a limit, else a fault of range
abbrev pub below : ℕ → ℕ → Result ℕ JsonFault
below limit n = if nat_lt n limit then Ok n else Err OutOfRange

-- a number of 16 bits: a glyph, or an index into a list of that many items
abbrev pub number_below : ℕ → Data → Result ℕ JsonFault
number_below limit d = and_then (u16_value d) (below limit)

-- ---- null

-- a value that is read and is not null
abbrev pub some_of : {A : Type 0} → Result A JsonFault → Result (Option A) JsonFault
some_of (Ok a) = Ok (Some a)
some_of (Err e) = Err e

-- null, or a value
abbrev pub or_null : {A : Type 0} → (Data → Result A JsonFault) → Data → Result (Option A) JsonFault
or_null read null = Ok None
or_null read (boolean b) = some_of (read (boolean b))
or_null read (number n) = some_of (read (number n))
or_null read (string s) = some_of (read (string s))
or_null read (array ds) = some_of (read (array ds))
or_null read (object ms) = some_of (read (object ms))

-- ---- lists

-- the value is an object
abbrev pub is_object : Data → Result ⊤ JsonFault
is_object d = if is_some (as_object d) then Ok tt else Err WrongShape

-- an item before other items; the fault that is first by its kind is the result
abbrev pub in_front : {A : Type 0} → Result A JsonFault → Result (List A) JsonFault → Result (List A) JsonFault
in_front (Ok a) (Ok rest) = Ok (a ∷ rest)
in_front (Ok a) (Err f) = Err f
in_front (Err e) (Ok rest) = Err e
in_front (Err e) (Err f) = Err (first_fault e f)

-- a list inside a row: of its items' faults the one that is first by its kind is the result
abbrev pub items_of : {A : Type 0} → (Data → Result A JsonFault) → Items → Result (List A) JsonFault
items_of read no_items = Ok []
items_of read (item d ds) = in_front (read d) (items_of read ds)

-- an item after other items; the fault that is first by its kind is the result
abbrev pub after_all : {A : Type 0} → Result (List A) JsonFault → Result A JsonFault → Result (List A) JsonFault
after_all (Ok rest) (Ok a) = Ok (rest ++ a ∷ [])
after_all (Ok rest) (Err f) = Err f
after_all (Err e) (Ok a) = Err e
after_all (Err e) (Err f) = Err (first_fault e f)

-- a list value inside a row
abbrev pub value_list : {A : Type 0} → (Data → Result A JsonFault) → Data → Result (List A) JsonFault
value_list read d = and_then (list_of d) (items_of read)

-- a list of rows: the fault of the first faulty row is the result
abbrev pub rows_in_turn : {A : Type 0} → (Data → Result A JsonFault) → Items → Result (List A) JsonFault
rows_in_turn read no_items = Ok []
rows_in_turn read (item d ds) = and_then (read d) (λ r. after (r ∷ []) (rows_in_turn read ds))

-- the rows under a key
abbrev pub rows_at : {A : Type 0} → List ℕ → (Items → Result A JsonFault) → Data → Result A JsonFault
rows_at key read d = and_then (list_at key d) read

-- ---- lengths

-- the number of items of a list
abbrev pub item_count : Items → ℕ
item_count no_items = 0
item_count (item d ds) = suc (item_count ds)

-- the number of items of a value, 0 where it is no list
abbrev pub count_of : Option Data → ℕ
count_of None = 0
count_of (Some d) = option_map_or item_count (as_array d) 0

-- the number of items of the list under a key, 0 where there is no list
abbrev pub count_at : List ℕ → Data → ℕ
count_at key d = count_of (get key d)

-- ---- lookups

-- a value of which a test on indices holds, else a fault of range
abbrev pub within : {A : Type 0} → Bool → A → Result A JsonFault
within fits a = if fits then Ok a else Err OutOfRange

-- a lookup of a table: the lookups that it names exist, else a fault of range
abbrev pub lookup_in_table : {A : Type 0} → (A → Bool) → (Data → Result A JsonFault) → Data → Result A JsonFault
lookup_in_table fits read d = and_then (read d) (λ a. within (fits a) a)

-- the lookups of a table under the key `lookups`, by a test of a lookup in a table of n of them
abbrev pub lookups_of : {A : Type 0} → (ℕ → A → Bool) → (Data → Result A JsonFault) → Data → Result (List A) JsonFault
lookups_of fits read d = rows_at (codes "lookups") (rows_in_turn (lookup_in_table (fits (count_at (codes "lookups") d)) read)) d

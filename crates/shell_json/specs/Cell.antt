-- The values in the cells of a JSON row, and the order of their faults.
use Rattle.std.specs.Prelude.{ℕ, ℤ, pos, negsuc, int_le, ◌&&◌, ◌||◌, Bool, nat_lt, nat_le, if◌then◌else◌, Option, Some, None, Result, Ok, Err}
use Rattle.serde_json.specs.Data.{Num, Data, Items, no_items, item}
use Rattle.std.specs.Option.{ok_or}
use Rattle.serde_json.specs.Find.{as_number, as_array, as_integer}
use Rattle.shell_json.specs.declared.fault.JsonFault.{JsonFault}
use Rattle.shell_json.specs.declared.fault.JsonFault.TheVariants.{NotJson, WrongShape, FloatNumber, UnknownName, OutOfOrder, OutOfRange, SplitDepth, OutOfMemory}

-- the rank of a fault: wrong shapes come before floats, floats before names, names before ranges, ranges before the
-- order of rows; after lack of memory nothing else is known
abbrev pub rank_of : JsonFault → ℕ
rank_of OutOfMemory = 0
rank_of NotJson = 1
rank_of WrongShape = 2
rank_of FloatNumber = 3
rank_of UnknownName = 4
rank_of OutOfRange = 5
rank_of OutOfOrder = 6
rank_of SplitDepth = 7

-- of two faults the first by its rank
abbrev pub first_fault : JsonFault → JsonFault → JsonFault
first_fault e f = if nat_le (rank_of e) (rank_of f) then e else f

-- two results as a pair, or the first of their faults
abbrev pub both : {A B : Type 0} → Result A JsonFault → Result B JsonFault → Result (A × B) JsonFault
both (Ok a) (Ok b) = Ok (a, b)
both (Ok a) (Err f) = Err f
both (Err e) (Ok b) = Err e
both (Err e) (Err f) = Err (first_fault e f)

-- the next step after a value without a fault
abbrev pub and_then : {A B : Type 0} → Result A JsonFault → (A → Result B JsonFault) → Result B JsonFault
and_then (Ok a) next = next a
and_then (Err e) next = Err e

-- ---- numbers

-- the integer of a number token
abbrev pub integer_of : Option Num → Result ℤ JsonFault
integer_of None = Err WrongShape
integer_of (Some n) = ok_or (as_integer n) FloatNumber

-- a number without fraction and exponent, of 64 bits
abbrev pub integer : Data → Result ℤ JsonFault
integer d = integer_of (as_number d)

-- an integer from 0 to 65,535
abbrev pub in_word : ℤ → Result ℕ JsonFault
in_word (pos n) = if nat_lt n 65536 then Ok n else Err OutOfRange
in_word (negsuc n) = Err OutOfRange

-- a value from 0 to 65,535: a glyph, an advance
abbrev pub u16_value : Data → Result ℕ JsonFault
u16_value d = and_then (integer d) in_word

-- an integer from -32,768 to 32,767
abbrev pub in_signed_word : ℤ → Result ℤ JsonFault
in_signed_word z = if int_le (negsuc 32767) z && int_le z (pos 32767) then Ok z else Err OutOfRange

-- a value from -32,768 to 32,767: a distance in font units
abbrev pub i16_value : Data → Result ℤ JsonFault
i16_value d = and_then (integer d) in_signed_word

-- a number is a Unicode scalar value
abbrev pub is_scalar_value : ℕ → Bool
is_scalar_value n = nat_lt n 0xD800 || (nat_le 0xE000 n && nat_le n 0x10FFFF)

-- an integer that is a Unicode scalar value
abbrev pub in_characters : ℤ → Result ℕ JsonFault
in_characters (pos n) = if is_scalar_value n then Ok n else Err OutOfRange
in_characters (negsuc n) = Err OutOfRange

-- a Unicode scalar value: every code point but the surrogates
abbrev pub character : Data → Result ℕ JsonFault
character d = and_then (integer d) in_characters

-- ---- pairs

-- a list of exactly two items
abbrev pub two_of : {A B : Type 0} → (Data → Result A JsonFault) → (Data → Result B JsonFault) → Items → Result (A × B) JsonFault
two_of first second no_items = Err WrongShape
two_of first second (item a no_items) = Err WrongShape
two_of first second (item a (item b no_items)) = both (first a) (second b)
two_of first second (item a (item b (item c ds))) = Err WrongShape

-- a value that is a list
abbrev pub of_list : {A : Type 0} → (Items → Result A JsonFault) → Option Items → Result A JsonFault
of_list read None = Err WrongShape
of_list read (Some ds) = read ds

-- a list value of exactly two items
abbrev pub pair_of : {A B : Type 0} → (Data → Result A JsonFault) → (Data → Result B JsonFault) → Data → Result (A × B) JsonFault
pair_of first second d = of_list (two_of first second) (as_array d)

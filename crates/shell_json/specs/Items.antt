-- Rows of a fixed number of items, and the values that rows share.
use Rattle.std.specs.Prelude.{ℕ, ◌&&◌, Bool, if◌then◌else◌, List, length, nat_lt, nat_le, Option, Some, None, Result, Ok, Err, pos, negsuc, ℤ}
use Rattle.std.specs.List.{list_all}
use Rattle.std.specs.Option.{ok_or}
use Rattle.serde_json.specs.Data.{Data, Items, no_items, item}
use Rattle.serde_json.specs.Find.{get, as_array, as_str}
use Rattle.shell_json.specs.declared.fault.JsonFault.{JsonFault}
use Rattle.shell_json.specs.declared.fault.JsonFault.TheVariants.{WrongShape, OutOfRange}
use Rattle.shell_json.specs.Cell.{and_then, both, integer}
use Rattle.buffer_common.specs.declared.tag.Tag.{Tag}
use Rattle.buffer_common.specs.Tag.{tag_of_text}

-- ---- lists

-- a value that is a list
abbrev pub list_of : Data → Result Items JsonFault
list_of d = ok_or (as_array d) WrongShape

-- the items of an optional list, none without it
abbrev pub list_or_none : Option Data → Result Items JsonFault
list_or_none None = Ok no_items
list_or_none (Some d) = list_of d

-- the items of the list under a key, none where the key is missing
abbrev pub list_at : List ℕ → Data → Result Items JsonFault
list_at key d = list_or_none (get key d)

-- exactly two items
abbrev pub two_in : Items → Result (Data × Data) JsonFault
two_in no_items = Err WrongShape
two_in (item a no_items) = Err WrongShape
two_in (item a (item b no_items)) = Ok (a, b)
two_in (item a (item b (item c ds))) = Err WrongShape

-- exactly three items
abbrev pub three_in : Items → Result (Data × Data × Data) JsonFault
three_in no_items = Err WrongShape
three_in (item a no_items) = Err WrongShape
three_in (item a (item b no_items)) = Err WrongShape
three_in (item a (item b (item c no_items))) = Ok (a, b, c)
three_in (item a (item b (item c (item d ds)))) = Err WrongShape

-- exactly four items
abbrev pub four_in : Items → Result (Data × Data × Data × Data) JsonFault
four_in no_items = Err WrongShape
four_in (item a no_items) = Err WrongShape
four_in (item a (item b no_items)) = Err WrongShape
four_in (item a (item b (item c no_items))) = Err WrongShape
four_in (item a (item b (item c (item d no_items)))) = Ok (a, b, c, d)
four_in (item a (item b (item c (item d (item e ds))))) = Err WrongShape

-- a row of exactly two items
abbrev pub row_of_two : {A B : Type 0} → (Data → Result A JsonFault) → (Data → Result B JsonFault) → Data → Result (A × B) JsonFault
row_of_two first second d = and_then (and_then (list_of d) two_in) (λ p. both (first p.0) (second p.1))

-- a row of exactly three items
abbrev pub row_of_three : {A B C : Type 0} → (Data → Result A JsonFault) → (Data → Result B JsonFault) → (Data → Result C JsonFault) → Data → Result (A × (B × C)) JsonFault
row_of_three first second third d = and_then (and_then (list_of d) three_in) (λ p. both (first p.0) (both (second p.1) (third p.2)))

-- a row of exactly four items
abbrev pub row_of_four : {A B C D : Type 0} → (Data → Result A JsonFault) → (Data → Result B JsonFault) → (Data → Result C JsonFault) → (Data → Result D JsonFault) → Data → Result (A × (B × (C × D))) JsonFault
row_of_four first second third fourth d =
    and_then (and_then (list_of d) four_in) (λ p. both (first p.0) (both (second p.1) (both (third p.2) (fourth p.3))))

-- ---- values

-- an integer from 0 on and below a limit, else a fault of range
abbrev pub in_natural_numbers_below : ℕ → ℤ → Result ℕ JsonFault
in_natural_numbers_below limit (pos n) = if nat_lt n limit then Ok n else Err OutOfRange
in_natural_numbers_below limit (negsuc n) = Err OutOfRange

-- a value that is such an integer
abbrev pub natural_number_below : ℕ → Data → Result ℕ JsonFault
natural_number_below limit d = and_then (integer d) (in_natural_numbers_below limit)

-- a value that is a text
abbrev pub text : Data → Result (List ℕ) JsonFault
text d = ok_or (as_str d) WrongShape

-- a printable character of ASCII
abbrev pub is_printable : ℕ → Bool
is_printable byte = nat_le 0x20 byte && nat_le byte 0x7E

-- 1 to 4 printable characters of ASCII
abbrev pub is_tag_text : List ℕ → Bool
is_tag_text name = nat_le 1 (length name) && nat_le (length name) 4 && list_all is_printable name

-- the tag of a text, which has 1 to 4 characters
abbrev pub tag_in_text : List ℕ → Result Tag JsonFault
tag_in_text name = if is_tag_text name then Ok (tag_of_text name) else Err WrongShape

-- a value that is a tag, padded with spaces
abbrev pub tag : Data → Result Tag JsonFault
tag d = and_then (text d) tag_in_text

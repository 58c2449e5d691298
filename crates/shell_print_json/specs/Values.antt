-- The JSON values of numbers, lists, rows and optional fields.
use Rattle.std.specs.Prelude.{ℕ, ℤ, List, Option, Some, None, map}
use Rattle.serde_json.specs.Data.{Data, null, number, array, unsigned, Members, member}
use Rattle.serde_json.specs.Find.{of_integer}
use Rattle.serde_json.specs.View.{items_of}

-- a number from 0 on: a glyph, an index, a class, an advance, a character
abbrev pub natural : ℕ → Data
natural n = number (unsigned n)

-- an integer: a distance in font units
abbrev pub integer : ℤ → Data
integer z = number (of_integer z)

-- a row, whose items differ in kind
abbrev pub row : List Data → Data
row ds = array (items_of ds)

-- a list, whose items are of one kind
abbrev pub list_of : {A : Type 0} → (A → Data) → List A → Data
list_of value xs = row (map value xs)

-- a value, or null without one
abbrev pub or_null : {A : Type 0} → (A → Data) → Option A → Data
or_null value None = null
or_null value (Some a) = value a

-- a key where it has a value, before other members
abbrev pub member_if : List ℕ → Option Data → Members → Members
member_if name None ms = ms
member_if name (Some d) ms = member name d ms

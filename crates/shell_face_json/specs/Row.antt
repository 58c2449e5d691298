-- Rows: lists whose items differ in kind.
use Rattle.std.specs.Prelude.{Result, Ok, Err, ⊤}
use Rattle.serde_json.specs.Data.{Data, Items, no_items, item}
use Rattle.shell_json.specs.declared.fault.JsonFault.{JsonFault}
use Rattle.shell_json.specs.declared.fault.JsonFault.TheVariants.{WrongShape}
use Rattle.shell_json.specs.Cell.{and_then, both}
use Rattle.shell_json.specs.Items.{list_of}

-- the row has no more items
abbrev pub no_more : Items → Result ⊤ JsonFault
no_more no_items = Ok tt
no_more (item d ds) = Err WrongShape

-- the first item of a row, and the items after it
abbrev pub first_in : Items → Result (Data × Items) JsonFault
first_in no_items = Err WrongShape
first_in (item d ds) = Ok (d, ds)

-- an item, and those after it: of their faults the one that is first by its kind is the result
abbrev pub first_and_rest : {A B : Type 0} → (Data → Result A JsonFault) → (Items → Result B JsonFault) → Items → Result (A × B) JsonFault
first_and_rest first rest ds = and_then (first_in ds) (λ p. both (first p.0) (rest p.1))

-- a row of exactly one item
abbrev pub only : {A : Type 0} → (Data → Result A JsonFault) → Items → Result A JsonFault
only read ds = and_then (first_and_rest read no_more ds) (λ p. Ok p.0)

-- a list of exactly the given items
abbrev pub row_of : {A : Type 0} → (Items → Result A JsonFault) → Data → Result A JsonFault
row_of parts d = and_then (list_of d) parts

-- a list of exactly two items
abbrev pub row_of_two : {A B : Type 0} → (Data → Result A JsonFault) → (Data → Result B JsonFault) → Data → Result (A × (B × ⊤)) JsonFault
row_of_two a b d = row_of (first_and_rest a (first_and_rest b no_more)) d

-- a list of exactly three items
abbrev pub row_of_three : {A B C : Type 0} → (Data → Result A JsonFault) → (Data → Result B JsonFault) → (Data → Result C JsonFault) → Data → Result (A × (B × (C × ⊤))) JsonFault
row_of_three a b c d = row_of (first_and_rest a (first_and_rest b (first_and_rest c no_more))) d

-- a list of exactly four items
abbrev pub row_of_four : {A B C D : Type 0} → (Data → Result A JsonFault) → (Data → Result B JsonFault) → (Data → Result C JsonFault) → (Data → Result D JsonFault) → Data → Result (A × (B × (C × (D × ⊤)))) JsonFault
row_of_four a b c e d = row_of (first_and_rest a (first_and_rest b (first_and_rest c (first_and_rest e no_more)))) d

-- The lengths of lists against which glyph classes are checked.
use Rattle.std.specs.Prelude.{ℕ, List, min, Option, Some, None}
use Rattle.std.specs.Option.{option_map_or}
use Rattle.serde_json.specs.Data.{Data, Items, no_items, item}
use Rattle.serde_json.specs.Find.{get, at, as_array}
use Rattle.shell_face_json.specs.Lists.{item_count}

-- the items of a value, none where it is no list
abbrev pub items_or_none : Option Data → Items
items_or_none None = no_items
items_or_none (Some d) = option_map_or (λ ds. ds) (as_array d) no_items

-- the items of the list under a key, none where there is no list
abbrev pub items_at : List ℕ → Data → Items
items_at key d = items_or_none (get key d)

-- the length of a list; the limit for a value that is no list
abbrev pub length_or : ℕ → Data → ℕ
length_or limit d = option_map_or item_count (as_array d) limit

-- the least length of some lists, at most the limit
abbrev pub least_length : ℕ → Items → ℕ
least_length limit no_items = limit
least_length limit (item d ds) = least_length (min limit (length_or limit d)) ds

-- ---- in rows whose second item is a list

-- the length of the list that is a row's second item, else the limit
abbrev pub row_length_or : ℕ → Option Data → ℕ
row_length_or limit None = limit
row_length_or limit (Some d) = length_or limit d

-- the least length of the lists that are second items of rows, at most the limit
abbrev pub least_row_length : ℕ → Items → ℕ
least_row_length limit no_items = limit
least_row_length limit (item row rows) = least_row_length (min limit (row_length_or limit (at 1 row))) rows

-- the least length of the lists within a row's second item
abbrev pub row_least_length : ℕ → Option Data → ℕ
row_least_length limit None = limit
row_least_length limit (Some d) = option_map_or (least_length limit) (as_array d) limit

-- the least length of the lists within the second items of rows, at most the limit
abbrev pub least_length_in_rows : ℕ → Items → ℕ
least_length_in_rows limit no_items = limit
least_length_in_rows limit (item row rows) = least_length_in_rows (row_least_length limit (at 1 row)) rows

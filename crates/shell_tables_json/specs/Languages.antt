-- The value of the key `languages`: tags of BCP 47 in the order of their bytes, each with OpenType tags.
use Rattle.std.specs.Prelude.{ℕ, suc, Bool, nat_le, if◌then◌else◌, List, [], ◌∷◌, codes, map, Option, None, Result, Ok, Err}
use Rattle.std.specs.Option.{option_map}
use Rattle.std.specs.Ordering.{nat_cmp}
use Rattle.std.specs.Cmp.Lexicographic.{slice_cmp}
use Rattle.serde_json.specs.Data.{Data, Items, no_items, item}
use Rattle.shell_json.specs.declared.fault.JsonFault.{JsonFault}
use Rattle.shell_json.specs.declared.fault.JsonFault.TheVariants.{WrongShape}
use Rattle.shell_json.specs.Cell.{and_then}
use Rattle.shell_json.specs.Objects.{of_object}
use Rattle.shell_json.specs.Items.{list_of, list_at, row_of_two, text, tag}
use Rattle.shell_json.specs.Rows.{after, is_above, rows_after}
use Rattle.buffer_common.specs.declared.tag.Tag.{Tag}
use Rattle.buffer_tags.specs.declared.language_table.LanguageRow.{LanguageRow}
use Rattle.buffer_tags.specs.declared.language_table.LanguageTable.{LanguageTable}
use Rattle.buffer_tags.specs.LanguageRows.{row_text}
use Rattle.buffer_tags.specs.LanguageTable.{rows_of}

-- ---- languages as texts and tags, without the memory that their strings occupy

-- a language's text with its OpenType tags
abbrev pub Language : Type 0
Language = List ℕ × List Tag

-- the language of a row, without the memory that its string occupies
abbrev pub language_in : LanguageRow → Language
language_in row = (row_text row, row.tags.items)

-- the languages of a table
abbrev pub languages_in : LanguageTable → List Language
languages_in table = map language_in (rows_of table)

-- ---- rows

-- the number of items of a list
abbrev pub item_count : Items → ℕ
item_count no_items = 0
item_count (item d ds) = suc (item_count ds)

-- a list of OpenType tags
abbrev pub tags_in : Items → Result (List Tag) JsonFault
tags_in no_items = Ok []
tags_in (item d ds) = and_then (tag d) (λ t. after (t ∷ []) (tags_in ds))

-- a list of at most three OpenType tags
abbrev pub few_tags : Items → Result (List Tag) JsonFault
few_tags ds = if nat_le (item_count ds) 3 then tags_in ds else Err WrongShape

-- a value that is such a list
abbrev pub tags : Data → Result (List Tag) JsonFault
tags d = and_then (list_of d) few_tags

-- [text, tags]: a language and its OpenType tags, the preferred one first
abbrev pub language : Data → Result Language JsonFault
language d = row_of_two text tags d

-- ---- keys

-- a row is the first, or its text is greater than that of the row before
abbrev pub follows : Option LanguageRow → LanguageRow → Bool
follows before row = is_above (slice_cmp nat_cmp) (option_map row_text before) (row_text row)

-- the languages of a list, whose texts rise by their bytes
abbrev pub languages_in_order : Items → Result (List Language) JsonFault
languages_in_order ds = rows_after (is_above (slice_cmp nat_cmp)) (λ l. l.0) language None ds

-- the languages of the key's value
abbrev pub languages_key : Data → Result (List Language) JsonFault
languages_key d = and_then (list_at (codes "languages") d) languages_in_order

-- the languages of a JSON value
abbrev pub languages_of : Data → Result (List Language) JsonFault
languages_of d = of_object languages_key d

-- A table of languages as its rows.
use Rattle.std.specs.Prelude.{ℕ, List}
use Rattle.buffer_common.specs.declared.tag.Tag.{Tag}
use Rattle.buffer_tags.specs.declared.language_table.LanguageRow.{LanguageRow}
use Rattle.buffer_tags.specs.declared.language_table.LanguageTable.{LanguageTable}
use Rattle.buffer_tags.specs.LanguageRows.{tags_of_language}

-- the rows of a table
abbrev pub rows_of : LanguageTable → List LanguageRow
rows_of table = table.rows.items

-- the OpenType tags of a language by a table
abbrev pub tags_of_table : LanguageTable → List ℕ → List Tag
tags_of_table table text = tags_of_language (rows_of table) text

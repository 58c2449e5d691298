-- The languages in binary form: section 10.
use Rattle.std.specs.Prelude.{option_map, ℕ, ◌+◌, ◌&&◌, nat_le, Bool, true, List, [], ◌∷◌, slice_range, map, Option, Some, None, if◌then◌else◌, Result, Ok, Err}
use Rattle.std.specs.Ordering.{nat_cmp}
use Rattle.std.specs.Cmp.Lexicographic.{slice_cmp}
use Rattle.std.specs.Str.{is_utf8}
use Rattle.buffer_common.specs.declared.tag.Tag.{Tag}
use Rattle.font_bytes.specs.Results.{and_then}
use Rattle.font_bytes.specs.Words.{byte, long}
use Rattle.font_bytes.specs.Records.{records}
use Rattle.buffer_rows.specs.Keys.{is_above}
use Rattle.buffer_tags.specs.declared.language_table.LanguageRow.{LanguageRow}
use Rattle.buffer_tags.specs.declared.language_table.LanguageTable.{LanguageTable}
use Rattle.buffer_tags.specs.LanguageRows.{row_text}
use Rattle.buffer_tags.specs.LanguageTable.{rows_of}
use Rattle.shell_tables_bytes.specs.declared.fault.BinaryFault.{BinaryFault}
use Rattle.shell_tables_bytes.specs.declared.fault.BinaryFault.TheVariants.{Languages}
use Rattle.shell_tables_bytes.specs.Sections.{section}

-- ---- languages as texts and tags, without the memory that their strings occupy

-- a language's text with its OpenType tags
abbrev pub Language : Type 0
Language = List ℕ × List Tag

-- the language of a row, without the memory that its string occupies
abbrev pub language_in : LanguageRow → Language
language_in row = (row_text row, row.tags.items)

-- the languages of a table
abbrev pub languages_in : LanguageTable → List Language
languages_in table = map language_in (rows_of table)

-- a row is the first, or its text is greater than that of the row before
abbrev pub follows : Option LanguageRow → LanguageRow → Bool
follows before row = is_above (slice_cmp nat_cmp) (option_map row_text before) (row_text row)

-- ---- records

-- the text of a language: its length, a uint8 of at most 12, and its bytes
abbrev pub text_at : List ℕ → ℕ → List ℕ
text_at bytes at = slice_range bytes (at + 1) (at + 1 + byte bytes at)

-- an OpenType tag, a uint32
abbrev pub tag_at : List ℕ → ℕ → Tag
tag_at bytes at = record { 0 = long bytes at }

-- the tags of a language: how many there are, a uint8 of at most 3, and the tags
abbrev pub tags_at : List ℕ → ℕ → List Tag
tags_at bytes at = records (tag_at bytes) 4 (at + 14) (byte bytes (at + 13))

-- a language: its text, and its tags, the preferred one first
abbrev pub language_record : List ℕ → ℕ → Language
language_record bytes at = (text_at bytes at, tags_at bytes at)

-- whether a text has at most 12 bytes and is UTF-8
abbrev pub is_text : List ℕ → ℕ → Bool
is_text bytes at = nat_le (byte bytes at) 12 && is_utf8 (text_at bytes at)

-- whether a record is a language: such a text, and at most three tags
abbrev pub is_language : List ℕ → ℕ → Bool
is_language bytes at = is_text bytes at && nat_le (byte bytes (at + 13)) 3

-- a record with whether it is a language
abbrev pub checked_record : List ℕ → ℕ → Bool × Language
checked_record bytes at = (is_language bytes at, language_record bytes at)

-- whether each record is a language, and each text greater than the one before by its bytes
abbrev pub are_languages : Option (List ℕ) → List (Bool × Language) → Bool
are_languages before [] = true
are_languages before (r ∷ rs) = r.0 && (is_above (slice_cmp nat_cmp) before r.1.0 && are_languages (Some r.1.0) rs)

-- the languages
abbrev pub languages_of : List ℕ → Result (List Language) BinaryFault
languages_of bytes =
    and_then (section checked_record 26 10 bytes) (λ rs.
    if are_languages None rs then Ok (map (λ r. r.1) rs) else Err Languages)

-- Language system tags by a table of languages.
use Rattle.std.specs.Prelude.{◌≡◌, ◌==◌, ℕ, List, [], Bool, true, Option, find, length}
use Rattle.std.specs.List.{before_first, AllAdjacentBelow}
use Rattle.std.specs.Option.{option_map_or}
use Rattle.std.specs.Ordering.{nat_cmp, is_lt}
use Rattle.std.specs.Cmp.Lexicographic.{slice_cmp}
use Rattle.std.specs.Str.{bytes_eq}
use Rattle.std.specs.String.{string_bytes}
use Rattle.buffer_common.specs.declared.tag.Tag.{Tag}
use Rattle.buffer_tags.specs.declared.language_table.LanguageRow.{LanguageRow}

-- the BCP 47 tag of a row
abbrev pub row_text : LanguageRow → List ℕ
row_text row = string_bytes row.text

-- whether a row's tag precedes another's, by bytes
abbrev pub is_before : LanguageRow → LanguageRow → Bool
is_before row next = is_lt (slice_cmp nat_cmp (row_text row) (row_text next))

-- each row's tag precedes the next one's
abbrev pub TextsRise : List LanguageRow → Type 0
TextsRise rows = AllAdjacentBelow (λ row next. is_before row next ≡ true) rows (length rows)

-- the row of a BCP 47 tag
abbrev pub row_of : List LanguageRow → List ℕ → Option LanguageRow
row_of rows text = find (λ row. bytes_eq (row_text row) text) rows

-- a language's primary subtag, without its script, region and variants
abbrev pub primary_part : List ℕ → List ℕ
primary_part text = before_first (λ byte. byte == 45) text

-- the OpenType tags of a row, if there is one
abbrev pub tags_in : Option LanguageRow → List Tag
tags_in row = option_map_or (λ found. found.tags.items) row []

-- the OpenType tags of the language's row, else those of its primary subtag's
abbrev pub tags_of_language : List LanguageRow → List ℕ → List Tag
tags_of_language rows text =
    option_map_or (λ found. found.tags.items) (row_of rows text) (tags_in (row_of rows (primary_part text)))

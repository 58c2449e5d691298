-- The tags of languages, by their rows and by what a JSON value says of them.
use Rattle.std.proofs.Common.{ℕ, ◌≡◌, true, false, if◌then◌else◌, List, [], ◌∷◌, map, refl, sym, ap, ◌∙◌}
use Rattle.std.specs.Prelude.{Option, Some, None}
use Rattle.std.specs.Option.{option_map, option_map_or}
use Rattle.std.specs.Str.{bytes_eq}
use Rattle.buffer_common.specs.declared.tag.Tag.{Tag}
use Rattle.buffer_tags.specs.declared.language_table.LanguageRow.{LanguageRow}
use Rattle.buffer_tags.specs.declared.language_table.LanguageTable.{LanguageTable}
use Rattle.buffer_tags.specs.LanguageRows.{primary_part, row_of, row_text}
use Rattle.buffer_tags.specs.LanguageTable.{rows_of, tags_of_table}
use Rattle.shell_tables_json.specs.Languages.{Language, language_in, languages_in}
use Rattle.buffer_common.specs.declared.language.Language as Text
use Rattle.buffer_common.specs.Language.{language_text}
use Rattle.buffer_common.specs.ScriptTags.{wanted_language_tags}
use Rattle.buffer_tags.specs.declared.feature.Feature.{Feature}
use Rattle.layout_face.specs.declared.parts.FaceParts.{FaceParts}
use Rattle.buffer_unicode_tables.specs.Tables.{Tables}
use Rattle.buffer_core.specs.Sides.{Sides}
use Rattle.script_plan.specs.Rules.{Spans}
use Rattle.shape_pipeline.specs.Shaped.{by_tags, by_text}
use Rattle.shell_readers.specs.Tables.{language_of, language_tags}

found_in : (text : List ℕ) (rows : List LanguageRow) → language_of (map language_in rows) text ≡ option_map language_in (row_of rows text)
found_in text [] = refl
found_in text (row ∷ rows) =
    elim (bytes_eq (row_text row) text) as (λ b. (if b then Some (language_in row) else language_of (map language_in rows) text) ≡ option_map language_in (if b then Some row else row_of rows text))
    [ true ↦ refl | false ↦ found_in text rows ]

tags_found : (o : Option LanguageRow) (other : List Tag) → option_map_or (λ (l : Language). l.1) (option_map language_in o) other ≡ option_map_or (λ (row : LanguageRow). row.tags.items) o other
tags_found None other = refl
tags_found (Some row) other = refl

pub same_tags : (table : LanguageTable) (text : List ℕ) → language_tags (languages_in table) text ≡ tags_of_table table text
same_tags table text = rw (found_in text (rows_of table), found_in (primary_part text) (rows_of table))
    (tags_found (row_of (rows_of table) text) _ ∙ ap (λ other. option_map_or (λ (row : LanguageRow). row.tags.items) (row_of (rows_of table) text) other) (tags_found (row_of (rows_of table) (primary_part text)) []))

wanted_same : (table : LanguageTable) (l : Option Text.Language) → wanted_language_tags (tags_of_table table) l ≡ wanted_language_tags (language_tags (languages_in table)) l
wanted_same table None = refl
wanted_same table (Some l) = sym (same_tags table (language_text l))

-- a text is shaped alike by a table of languages and by what it was read from
pub same_shaping : (font : FaceParts) (tables : Tables) (table : LanguageTable) (spans : Spans) (features : List Feature) (s : Sides) → by_text font tables (tags_of_table table) spans features s ≡ by_text font tables (language_tags (languages_in table)) spans features s
same_shaping font tables table spans features s = ap (λ of. by_tags font tables of spans features s) (wanted_same table s.language)

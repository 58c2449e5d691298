-- The names of glyphs (OpenType, chapter 5, post).
use Rattle.std.specs.Prelude.{ℕ, zero, suc, ◌+◌, ◌-◌, ◌*◌, ◌==◌, nat_lt, min, if◌then◌else◌, List, [], ◌∷◌, ◌++◌, length, Result, Ok}
use Rattle.layout_face.specs.Names.{GlyphName}
use Rattle.font_bytes.specs.declared.fault.TableFault.{TableFault}
use Rattle.font_bytes.specs.Results.{and_then}
use Rattle.font_bytes.specs.Words.{need, word, long}
use Rattle.font_names.specs.Strings.{macintosh_strings, string_in, string_starts, latin_text}

-- the row of a glyph, none where its name is empty
abbrev pub name_row : ℕ → List ℕ → List GlyphName
name_row g name = if length name == 0 then [] else record { glyph = g; name = latin_text name } ∷ []

-- the rows of n glyphs from one on, by their names
abbrev pub name_rows : (ℕ → List ℕ) → ℕ → ℕ → List GlyphName
name_rows name g zero = []
name_rows name g (suc count) = name_row g (name g) ++ name_rows name (g + 1) count

-- version 1.0: a glyph has the standard name of its number
unfoldable pub standard_rows : ℕ → List GlyphName
standard_rows count = name_rows (string_in macintosh_strings (string_starts macintosh_strings 0 258)) 0 (min count 258)

-- the name of an index, by the offsets of the table's strings and of the standard names: below 258 a standard one
abbrev pub indexed_name : List ℕ → List ℕ → List ℕ → ℕ → List ℕ
indexed_name post starts standard index = if nat_lt index 258 then string_in macintosh_strings standard index else string_in post starts (index - 258)

-- version 2.0: glyphNameIndex at 34, as many as there are glyphs in the table, and the strings after it
unfoldable pub indexed_rows : List ℕ → ℕ → ℕ → List GlyphName
indexed_rows post glyphs count = name_rows (λ g. indexed_name post (string_starts post (34 + 2 * glyphs) 65278) (string_starts macintosh_strings 0 258) (word post (34 + 2 * g))) 0 count

-- version 2.0: numberOfGlyphs at 32
unfoldable pub indexed_names : List ℕ → ℕ → Result (List GlyphName) TableFault
indexed_names post count = and_then (need post 32 2) (λ _. and_then (need post 34 (2 * word post 32)) (λ _. Ok (indexed_rows post (word post 32) (min count (word post 32)))))

-- the names by the version
abbrev pub names_of_version : List ℕ → ℕ → ℕ → Result (List GlyphName) TableFault
names_of_version post count version = if version == 65536 then Ok (standard_rows count) else (if version == 131072 then indexed_names post count else Ok [])

-- the names of n glyphs: the version at 0
unfoldable pub names_at : List ℕ → ℕ → Result (List GlyphName) TableFault
names_at post count = and_then (need post 0 32) (λ _. names_of_version post count (long post 0))
